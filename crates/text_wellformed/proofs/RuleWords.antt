-- The table's words of a rule and of a variable.
-- Assumes nothing.
use Prim.Native.Nat.{ℕ, ◌+◌, ◌-◌, ◌≤◌, ◌<◌}
use mathlib.Core.Path.{◌≡◌, refl, sym, ap, ◌∙◌}
use mathlib.Core.Logic.{⊎_elim}
use mathlib.Core.Bool.{Bool, true, false, cond}
use mathlib.Core.List.{List, ◌∷◌, []}
use native.Mathlib.Omega.{arith}
use borrow.Author.Tests.{le-leb, eq-eqb, ne_eqb, ltb-true, ltb-false}
use lib.Dec.{ltb}
use lib.ListN.{get_or}
use Rattle.basis.specs.Limits.{max_variables}
use Rattle.basis.proofs.Booleans.{which}
use Rattle.table_layout.specs.Places.{rule_word, variable_word}
use Rattle.table_wellformed.specs.Rules.{body, rule_end}
use Rattle.text_shapes.proofs.Moving.{extent}
use Rattle.text_store.specs.Words.{is_binder, first_node, last_node}
use Rattle.text_encoding.specs.Lists.{narrow}
use Rattle.text_encoding.specs.Numbers.{binders_before, width_of, is_signed}
use Rattle.text_wellformed.specs.Context.{Readable, Words}
use Rattle.text_wellformed.specs.Meant.{NamedBack}
use Rattle.text_wellformed.proofs.NoFaults.{binders_mono, binders_next}
use Rattle.text_wellformed.proofs.RulesAt.{RuleAt, rule_at}

module _ {xs ns ts rs : List ℕ} {n t b r : ℕ} {ws : List ℕ} (W : Words xs ns ts rs n r ws) (R : Readable xs ns ts rs n t b r) (few_binders : binders_before ns n ≤ max_variables) where
  pub rule : (k : ℕ) → k < r → RuleAt xs ns ts rs r n k
  rule k h = rule_at R.rules k (omega arith) h

  pub rule_grows : (k : ℕ) → k < r → first_node rs k < last_node rs k
  rule_grows k h = (extent (rule k h).holds).0

  binders_few : (i : ℕ) → i ≤ n → binders_before ns i ≤ max_variables
  binders_few i h = omega (arith, binders_mono ns i n h)

  -- ---- a rule

  pub body_is : (k : ℕ) → k < r → body ws k ≡ first_node rs k
  body_is k h = W.rule_at k 0 h (omega arith) ∙ (let z : narrow (first_node rs k) ≡ first_node rs k = omega (arith, rule_grows k h, (rule k h).within, R.nodes_limit) in z)

  pub first_variable : (k : ℕ) → k < r → rule_word ws k 1 ≡ binders_before ns (first_node rs k)
  first_variable k h =
      let l : first_node rs k ≤ n = omega (arith, rule_grows k h, (rule k h).within)
      in W.rule_at k 1 h (omega arith) ∙ (let z : narrow (binders_before ns (first_node rs k)) ≡ binders_before ns (first_node rs k) = omega (arith, binders_few (first_node rs k) l) in z)

  -- where those of the next rule begin, or at their number
  pub nodes_end : (k : ℕ) → k < r → rule_end ws k 0 ≡ last_node rs k
  nodes_end k h =
      rw W.rules_are
      (⊎_elim (λ (e : ltb (k + 1) r ≡ true). let l : k + 1 < r = ltb-true (k + 1) r e in rw e (body_is (k + 1) l ∙ (rule k h).next l))
      (λ (e : ltb (k + 1) r ≡ false). let z : k + 1 ≡ r = omega (arith, ltb-false (k + 1) r e) in rw e (W.constructs_are ∙ sym ((rule k h).end z)))
      (which (ltb (k + 1) r)))

  pub variables_end : (k : ℕ) → k < r → rule_end ws k 1 ≡ binders_before ns (last_node rs k)
  variables_end k h =
      rw W.rules_are
      (⊎_elim (λ (e : ltb (k + 1) r ≡ true). let l : k + 1 < r = ltb-true (k + 1) r e in rw e (first_variable (k + 1) l ∙ ap (binders_before ns) ((rule k h).next l)))
      (λ (e : ltb (k + 1) r ≡ false). let z : k + 1 ≡ r = omega (arith, ltb-false (k + 1) r e) in rw e (W.variables_are ∙ ap (binders_before ns) (sym ((rule k h).end z))))
      (which (ltb (k + 1) r)))

  -- ---- a variable

  pub variable_is : (i j : ℕ) → i < n → is_binder ns i ≡ true → j < 4 → variable_word ws (binders_before ns i) j ≡ narrow (get_or (i ∷ width_of xs ns i ∷ cond (is_signed xs ns i) 1 0 ∷ 0 ∷ []) j 0)
  variable_is i j h e l = W.variable_at i j h e l ∙ ap (λ (b : Bool). narrow (get_or (cond b (i ∷ width_of xs ns i ∷ cond (is_signed xs ns i) 1 0 ∷ 0 ∷ []) []) j 0)) e

  -- it names its construct
  pub variable_names : (i : ℕ) → i < n → is_binder ns i ≡ true → variable_word ws (binders_before ns i) 0 ≡ i
  variable_names i h e = variable_is i 0 h e (omega arith) ∙ (let z : narrow i ≡ i = omega (arith, R.nodes_limit) in z)

  pub named_back_laid : NamedBack ns n ws
  named_back_laid i h e =
      let l : i + 1 ≤ n = omega arith
      in let z : binders_before ns i + 1 - 1 ≡ binders_before ns i = omega arith
      in let m : binders_before ns i + 1 ≤ binders_before ns n = omega (arith, binders_next ns i true e, binders_mono ns (i + 1) n l)
      in rw (ne_eqb (binders_before ns i + 1) 0 (λ y. omega arith), W.variables_are, le-leb (binders_before ns i + 1) (binders_before ns n) m, z, variable_names i h e) (eq-eqb i i refl)
