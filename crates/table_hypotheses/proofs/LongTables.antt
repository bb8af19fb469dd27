-- "Words past 16,384 are neither read nor changed": what holds of a table's 16,384 words holds of the whole list.
-- Assumes nothing.
use Prim.Native.Nat.{ℕ, ◌+◌, ◌≤◌, ◌<◌}
use mathlib.Core.Path.{◌≡◌, sym, ◌∙◌}
use mathlib.Core.List.{List}
use native.Mathlib.Omega.{arith}
use lib.ListN.{length, length-take}
use lib.Seq.{get_or-take}
use Rattle.basis.specs.Limits.{max_constructs}
use Rattle.basis.specs.Bits.{Bits}
use Rattle.theory.specs.Lookahead.{Follow, Predicted}
use Rattle.table_layout.specs.Places.{table_of, word, table_words, construct_count, weight_of}
use Rattle.table_layout.specs.Held.{held}
use Rattle.run_actions.specs.Stored.{prediction_at, follow_at}
use Rattle.table_judge.specs.Sound.{Stands, Sound, SoundTable}
use Rattle.table_hypotheses.specs.Soundness.{Trusted}
use Rattle.table_hypotheses.specs.OneTable.{Alike, Ended}
use Rattle.table_hypotheses.proofs.Hypothesis.{laid_of_sound}
use Rattle.table_hypotheses.proofs.Trust.{trusted}
use Rattle.table_hypotheses.proofs.EndedWords.{ended_of}
use Rattle.table_hypotheses.proofs.PassedLocal.{sound_local}

module _ (ws : List ℕ) where
  kept : (k : ℕ) → k < table_words → word (table_of ws) k ≡ word ws k
  kept k h = get_or-take table_words ws k 0 h

  -- a set that stands in the first 16,384 words stands there in all
  kept_set : (at : ℕ) (A : Bits → Type 0) → at + 16 ≤ table_words → Stands (table_of ws) at A → Stands ws at A
  kept_set at A h s = record { set = s.set; is = s.is; there = λ k b. sym (kept (at + k) (omega arith)) ∙ s.there k b }

  module _ (long : table_words ≤ length ws) where
    pub table_alike : Alike (table_of ws) ws
    table_alike =
        let n : length (table_of ws) ≡ table_words = length-take table_words ws ∙ omega arith in
        record { long = omega arith; long' = omega arith; same = λ k h e. kept k (omega arith) }

    kept_end : Ended (table_of ws) → Ended ws
    kept_end e =
        let weight : weight_of (table_of ws) ≡ weight_of ws = kept 5 (omega arith) in
        let count : construct_count (table_of ws) ≡ construct_count ws = kept 2 (omega arith) in
        record {
          long = long;
          some_weight = omega (arith, e.some_weight);
          weight = omega (arith, e.weight);
          zeros = λ k low high. sym (kept k high) ∙ e.zeros k (omega arith) high;
        }

  pub sound_long : SoundTable ws → Sound ws
  sound_long (long, s) =
      sound_local (table_alike long) (kept_end long (ended_of (laid_of_sound s))) s.passed (λ weight w. s.weight weight w ∙ kept 5 (omega arith)) s.reached s.valued
      (λ i h.
      let few : i < max_constructs = omega (arith, (laid_of_sound s).counts.constructs) in (
        kept_set (prediction_at i) (Predicted (held (table_of ws)) i) (omega arith) (s.sets i h).prediction,
        kept_set (follow_at i) (Follow (held (table_of ws)) i) (omega arith) (s.sets i h).follow,
      ))

  pub trusted_long : SoundTable ws → Trusted ws
  trusted_long s = trusted ws (sound_long s)
