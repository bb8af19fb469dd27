-- Sound tables that agree below the sets, but for the weight, are equal.
-- Assumes nothing.
use Prim.Native.Nat.{ℕ, ◌+◌, ◌*◌, ◌-◌, ◌/◌, ◌%◌, ◌≤◌, ◌<◌}
use mathlib.Core.Path.{◌≡◌, sym, ◌∙◌}
use mathlib.Core.List.{List}
use native.Mathlib.Omega.{arith}
use native.Mathlib.Decide.{dec_lt, ℕ_discrete}
use lib.ListN.{length}
use lib.Seq.{ext_get_or}
use Rattle.basis.specs.Bits.{Bits}
use Rattle.theory.specs.Lookahead.{Follow, Predicted}
use Rattle.theory.specs.Weight.{Weighs}
use Rattle.table_layout.specs.Places.{word, table_words, sets_at, construct_count, weight_of}
use Rattle.table_layout.specs.Held.{held}
use Rattle.run_actions.specs.Stored.{prediction_at, follow_at}
use Rattle.table_weights.proofs.Heights.{weight_at}
use Rattle.table_judge.specs.Sound.{Stands, Sound}
use Rattle.table_judge.proofs.Standing.{one_form}
use Rattle.table_hypotheses.specs.OneTable.{Alike}
use Rattle.table_hypotheses.proofs.Hypothesis.{laid_of_sound}
use Rattle.table_hypotheses.proofs.Reliability.{weighed, weight_stored}
use Rattle.table_hypotheses.proofs.EndedWords.{ended_of}
use Rattle.table_hypotheses.proofs.PassedLocal.{count_same, of_held}

-- a set has one form, so its words are the same wherever it stands
pub set_words : (ws ws' : List ℕ) (at : ℕ) (A : Bits → Type 0) → Stands ws at A → Stands ws' at A → (k : ℕ) → k < 16 → word ws (at + k) ≡ word ws' (at + k)
set_words ws ws' at A s s' k h = (one_form ws at A s'.set s'.is).1 s k h ∙ sym (s'.there k h)

module _ {ws ws' : List ℕ} (a : Alike ws ws') (s : Sound ws) (s' : Sound ws') where
  same_weight : weight_of ws ≡ weight_of ws'
  same_weight = sym (weight_stored s) ∙ s'.weight (λ c i. weight_at ws i) (of_held a (λ g. Weighs g (λ c i. weight_at ws i)) (weighed s))

  module _ (i : ℕ) (h : i < construct_count ws) where
    there : i < construct_count ws'
    there = omega (arith, count_same a)

    same_prediction : (k : ℕ) → k < 16 → word ws (prediction_at i + k) ≡ word ws' (prediction_at i + k)
    same_prediction = set_words ws ws' (prediction_at i) (Predicted (held ws') i) (of_held a (λ g. Stands ws (prediction_at i) (Predicted g i)) (s.sets i h).prediction) (s'.sets i there).prediction

    same_follow : (k : ℕ) → k < 16 → word ws (follow_at i + k) ≡ word ws' (follow_at i + k)
    same_follow = set_words ws ws' (follow_at i) (Follow (held ws') i) (of_held a (λ g. Stands ws (follow_at i) (Follow g i)) (s.sets i h).follow) (s'.sets i there).follow

    -- word k of the construct's 32
    same_sets : (k : ℕ) → k < 32 → word ws (sets_at + 32 * i + k) ≡ word ws' (sets_at + 32 * i + k)
    same_sets k b =
        elim (dec_lt k 16) [
          | yes l ↦ same_prediction k l
          | no l ↦ let e : follow_at i + (k - 16) ≡ sets_at + 32 * i + k = omega arith in rw e at (same_follow (k - 16) (omega arith))
        ]

  -- past the sets of the constructs all is 0
  same_past : (k : ℕ) → sets_at + 32 * construct_count ws ≤ k → k < table_words → word ws k ≡ word ws' k
  same_past k low high = (ended_of (laid_of_sound s)).zeros k low high ∙ sym ((ended_of (laid_of_sound s')).zeros k (omega (arith, count_same a)) high)

  same_word : (k : ℕ) → k < table_words → word ws k ≡ word ws' k
  same_word k h =
      elim (dec_lt k sets_at) [
        | yes low ↦ elim (ℕ_discrete k 5) [ yes e ↦ rw e same_weight | no e ↦ a.same k low e ]
        | no high ↦ elim (dec_lt k (sets_at + 32 * construct_count ws)) [
          | yes l ↦
              let e : sets_at + 32 * ((k - sets_at) / 32) + (k - sets_at) % 32 ≡ k = omega arith in
              rw e at (same_sets ((k - sets_at) / 32) (omega arith) ((k - sets_at) % 32) (omega arith))
          | no l ↦ same_past k (omega arith) h
        ]
      ]

  pub alike_equal : length ws ≡ table_words → length ws' ≡ table_words → ws ≡ ws'
  alike_equal n n' = ext_get_or 0 ws ws' (n ∙ sym n') (λ k h. same_word k (omega arith))
