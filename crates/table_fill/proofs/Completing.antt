-- Words that pass, with their sets and weight written in, are a sound table of the same grammar.
-- Assumes nothing.
use Prim.Native.Nat.{ℕ, ◌+◌, ◌≤◌, ◌<◌}
use mathlib.Core.Path.{◌≡◌, refl, sym, ap, ◌∙◌}
use mathlib.Core.Logic.{inl, inr}
use mathlib.Core.List.{List}
use native.Mathlib.Omega.{arith}
use lib.ListN.{length, get_or, set, drop, length-set, length-drop}
use lib.Seq.{get_or-set_same, get_or-set_other, get_or-drop, ext_get_or}
use Rattle.basis.specs.Bits.{Bits}
use Rattle.lookahead.specs.Sets.{Is}
use Rattle.lookahead_slices.specs.Family.{part}
use Rattle.lookahead_slices.specs.Narrow.{StandsAt}
use Rattle.theory.specs.Lookahead.{Follow, Predicted}
use Rattle.theory.specs.Weight.{Weighs, weigh}
use Rattle.table_layout.specs.Places.{table_words, construct_count, weight_of}
use Rattle.table_layout.specs.Held.{Context, first_context, held, opening, use_node}
use Rattle.run_actions.specs.Stored.{prediction_at, follow_at}
use Rattle.table_structure.proofs.Facts.{Laid, facts}
use Rattle.table_scope.proofs.RuledLaw.{ruled}
use Rattle.table_weights.proofs.Heights.{weight_at}
use Rattle.table_weights.proofs.Theorems.{weights_exist}
use Rattle.table_first_follow.specs.Sets.{FollowSets, PredictionSets, sets_held}
use Rattle.table_first_follow.proofs.HeldLaws.{node_opening}
use Rattle.table_judge.specs.Judged.{Passed7, Judged}
use Rattle.table_judge.specs.Sound.{Stands, Sound}
use Rattle.std.specs.Prelude.{Ok}
use Rattle.table_hypotheses.specs.OneTable.{Alike, Ended}
use Rattle.table_hypotheses.proofs.EndedWords.{ended_of}
use Rattle.table_hypotheses.proofs.PassedLocal.{sound_local}
use Rattle.table_fill.specs.Completed.{SetsWritten}

-- "grammar, as a use of its start rule": a weight is at least 1
use_weighs : (ws : List ℕ) (w : Context → ℕ → ℕ) → 1 ≤ weigh w first_context (use_node ws 0)
unfolding weigh
use_weighs ws w = omega arith

weighs_some : (ws : List ℕ) (w : Context → ℕ → ℕ) → Weighs (held ws) w → 1 ≤ w first_context opening
weighs_some ws w k = let e : w first_context opening ≡ weigh w first_context (use_node ws 0) = k first_context opening ∙ ap (weigh w first_context) (node_opening ws opening refl) in omega (arith, e, use_weighs ws w)

module _ (ws middle last follow prediction : List ℕ) (weight : ℕ) (j : Judged ws (Ok weight)) (fs : FollowSets ws follow) (ps : PredictionSets ws prediction)
    (w : SetsWritten ws middle follow prediction (construct_count ws)) (e : last ≡ set middle 5 weight) where
  passed7 : Passed7 ws
  passed7 = j.0.passed.passed.passed

  laid_words : Laid ws
  laid_words = facts ws passed7.laid_out

  some_weight : 1 ≤ weight
  some_weight =
      let f : Context → ℕ → ℕ = λ c i. weight_at ws i in
      let k : Weighs (held ws) f = weights_exist ws (ruled ws passed7.laid_out) passed7.acyclic in
      let q : f first_context opening ≡ weight = j.1 f k in
      omega (arith, weighs_some ws f k, q)

  last_long : length last ≡ length ws
  last_long = ap length e ∙ length-set middle 5 weight ∙ w.same_length

  untouched : (k : ℕ) → (k ≡ 5 → ⊥) → get_or last k 0 ≡ get_or middle k 0
  untouched k n = ap (λ (x : List ℕ). get_or x k 0) e ∙ get_or-set_other middle 5 k weight 0 n

  pub alike : Alike ws last
  alike = record { long = omega (arith, laid_words.long); long' = omega (arith, last_long, laid_words.long); same = λ k h n. sym (untouched k n ∙ w.others k (inl h)) }

  stored_weight : weight_of last ≡ weight
  stored_weight = ap (λ (x : List ℕ). get_or x 5 0) e ∙ get_or-set_same middle 5 weight 0 (omega (arith, w.same_length, laid_words.long))

  count_kept : construct_count last ≡ construct_count ws
  count_kept = sym (alike.same 2 (omega arith) (λ z. omega arith))

  ended : Ended last
  ended =
      let before : Ended ws = ended_of laid_words in
      record {
        long = omega (arith, last_long, laid_words.long);
        some_weight = omega (arith, stored_weight, some_weight);
        weight = omega (arith, stored_weight, j.2);
        zeros = λ k h l. untouched k (λ z. omega arith) ∙ w.others k (inr (omega (arith, count_kept))) ∙ before.zeros k (omega (arith, count_kept)) l;
      }

  moved : (at : ℕ) (set : List ℕ) → 6 ≤ at → StandsAt middle at set → StandsAt last at set
  moved at set h s k l = untouched (at + k) (λ z. omega arith) ∙ s k l

  -- a set that stands in the written words is that of the grammar
  stand : (at : ℕ) (A : Bits → Type 0) (set : List ℕ) → 6 ≤ at → Is set A → StandsAt middle at set → Stands last at A
  stand at A set h i s = record { set = set; is = i; there = moved at set h s }

  beyond : drop table_words last ≡ drop table_words ws
  beyond =
      ext_get_or 0 (drop table_words last) (drop table_words ws) (omega (arith, length-drop table_words last, length-drop table_words ws, last_long))
      (λ i h. get_or-drop table_words last i 0 ∙ (untouched (table_words + i) (λ z. omega arith) ∙ (w.others (table_words + i) (inr (omega (arith, laid_words.counts.constructs))) ∙ sym (get_or-drop table_words ws i 0))))

  pub completed : Sound last × Alike ws last × (length last ≡ length ws) × (drop table_words last ≡ drop table_words ws)
  completed = (
    sound_local alike ended j.0 (λ f k. j.1 f k ∙ sym stored_weight) j.3 j.4
        (λ i h.
        let small : i < sets_held = omega (arith, laid_words.counts.constructs) in (
          stand (prediction_at i) (Predicted (held ws) i) (part i prediction) (omega arith) (ps i small) (w.prediction_stands i h),
          stand (follow_at i) (Follow (held ws) i) (part i follow) (omega arith) (fs i small) (w.follow_stands i h),
        )),
    alike,
    last_long,
    beyond,
  )
