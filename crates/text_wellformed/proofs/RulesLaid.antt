-- The rules are laid out: the constructs and the variables of one follow those of the one before.
-- Assumes nothing.
use Prim.Native.Nat.{ℕ, ◌+◌, ◌-◌, ◌≤◌, ◌<◌}
use mathlib.Core.Path.{◌≡◌, ap, ◌∙◌}
use mathlib.Core.Bool.{Bool, true, ◌&&◌}
use mathlib.Core.List.{List}
use native.Mathlib.Omega.{arith}
use borrow.Author.Tests.{lt-ltb, eq-eqb}
use lib.Dec.{ltb, eqb}
use Rattle.basis.specs.Limits.{max_variables}
use Rattle.table_layout.specs.Places.{rule_count, rule_word}
use Rattle.table_wellformed.specs.Checks.{from_to, size_at}
use Rattle.table_wellformed.specs.Parts.{unconditioned}
use Rattle.table_wellformed.specs.Rules.{body, rule_end, rule_laid, rules_laid}
use Rattle.text_store.specs.Words.{first_node, last_node}
use Rattle.text_encoding.specs.Lists.{narrow}
use Rattle.text_encoding.specs.Numbers.{binds_one, binders_before}
use Rattle.text_wellformed.specs.Context.{Readable, Words, Quiet}
use Rattle.text_wellformed.proofs.Sums.{sum_zero, sum_below}
use Rattle.text_wellformed.proofs.Tests.{from_to_all}
use Rattle.text_wellformed.proofs.Totals.{binders_total}
use Rattle.text_wellformed.proofs.RulesAt.{RuleAt, begins}
use Rattle.text_wellformed.proofs.RuleWords.{rule, rule_grows, body_is, first_variable, nodes_end, variables_end}
use Rattle.text_wellformed.proofs.ConditionWords.{is_unconditioned}
use Rattle.text_wellformed.proofs.PartsLaid.{part_size}

module _ {xs ns ts rs ws : List ℕ} {n t b r : ℕ} (known-text : Readable xs ns ts rs n t b r) (words : Words xs ns ts rs n r ws) (quiet : Quiet ns n) where
  few : binders_before ns n ≤ max_variables
  few = omega (arith, binders_total known-text, known-text.binders_limit)

  module _ (k : ℕ) (h : k < r) where
    abbrev first : ℕ
    first = first_node rs k

    abbrev last : ℕ
    last = last_node rs k

    at : RuleAt xs ns ts rs r n k
    at = rule words known-text few k h

    variables_many : rule_word ws k 2 ≡ binders_before ns last - binders_before ns first
    variables_many =
        words.rule_at k 2 h (omega arith)
        ∙ (let z : narrow (binders_before ns last - binders_before ns first) ≡ binders_before ns last - binders_before ns first = omega (arith, few, sum_below (binds_one ns) last n at.within) in z)

    no_more : rule_word ws k 3 ≡ 0
    no_more = words.rule_at k 3 h (omega arith)

    rule_is_laid : rule_laid ws k ≡ true
    rule_is_laid =
        let first_is : body ws k ≡ first = body_is words known-text few k h in
        let below : first < last = rule_grows words known-text few k h in
        let end_is : rule_end ws k 0 ≡ last = nodes_end words known-text few k h in
        let a : ltb (body ws k) (rule_end ws k 0) ≡ true = lt-ltb (body ws k) (rule_end ws k 0) (omega arith) in
        let s : size_at ws (body ws k) ≡ last - first = ap (size_at ws) first_is ∙ part_size known-text words quiet at.holds at.within in
        let c : eqb (body ws k + size_at ws (body ws k)) (rule_end ws k 0) ≡ true = eq-eqb (body ws k + size_at ws (body ws k)) (rule_end ws k 0) (omega arith) in
        let d : eqb (rule_word ws k 1 + rule_word ws k 2) (rule_end ws k 1) ≡ true =
        eq-eqb (rule_word ws k 1 + rule_word ws k 2) (rule_end ws k 1)
        (omega (arith, first_variable words known-text few k h, variables_many, variables_end words known-text few k h, sum_below (binds_one ns) first last (omega arith))) in
        let e : eqb (rule_word ws k 3) 0 ≡ true = eq-eqb (rule_word ws k 3) 0 no_more in
        let f : unconditioned ws (body ws k) ≡ true = ap (unconditioned ws) first_is ∙ is_unconditioned known-text words quiet first (omega (arith, at.within)) at.free in
        holds a c d e f
      where
        holds : {p q u v w : Bool} → p ≡ true → q ≡ true → u ≡ true → v ≡ true → w ≡ true → ((p && q) && (u && (v && w))) ≡ true
        holds a b c d e = rw (a, b, c, d, e)

  -- ---- all of them

  pub rules_are_laid : rules_laid ws ≡ true
  rules_are_laid =
      let z : first_node rs 0 ≡ 0 = begins known-text.rules known-text.some in
      let a : eqb (body ws 0) 0 ≡ true = eq-eqb (body ws 0) 0 (body_is words known-text few 0 known-text.some ∙ z) in
      let c : eqb (rule_word ws 0 1) 0 ≡ true =
      eq-eqb (rule_word ws 0 1) 0 (first_variable words known-text few 0 known-text.some ∙ ap (binders_before ns) z ∙ sum_zero (binds_one ns)) in
      let d : from_to 0 (rule_count ws) (rule_laid ws) ≡ true = from_to_all 0 (rule_count ws) (rule_laid ws) (λ k l h. rule_is_laid k (omega (arith, words.rules_are))) in
      rw (a, c, d)
