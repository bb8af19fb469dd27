-- What is answered to a text that passes, and to one of which a refusal is known.
-- Assumes nothing.
use Prim.Native.Nat.{ℕ, ◌≤◌}
use Prim.Native.String.{String}
use mathlib.Core.Path.{◌≡◌, sym, ap, ap₂, subst, ◌∙◌}
use mathlib.Core.List.{List}
use native.Mathlib.Omega.{arith}
use lib.ListN.{length}
use Rattle.table_layout.specs.Places.{table_words}
use Rattle.tree.specs.Tree.{Rules}
use Rattle.text_admission.specs.Answers.{place_in, number_of}
use Rattle.text_admission.specs.declared.Admission.{Admission}
use Rattle.admission.specs.Texts.{TreeOf}
use Rattle.admission.specs.Refusals.{Row, number, NoneBelow, First, Weight}
use Rattle.admission.specs.Promised.{Promised}
use Rattle.admission.proofs.Rows.{one_tree}
use Rattle.admission.proofs.Trees.{tree_below_7, tree_below_9, tree_below_10, tree_below_11, tree_below_12, tree_below_13, tree_below_14}
use Rattle.sheet.specs.Sheet.{text_of}
use Rattle.sheet.proofs.Texts.{Formed}
use Rattle.sheet.proofs.Stages.{Named, Bounded}
use Rattle.sheet.proofs.Nodes.{Passing}

-- the text's tree
abbrev pub tree_of : {rules : String} {t : Rules} → Formed rules t → TreeOf (text_of rules)
tree_of {t = t} f = record { base = 16; tree = t; end = f.end; header = f.header; spells = f.spells }

module _ (rules : String) (t : Rules) (f : Formed rules t) (old : List ℕ) (l : table_words ≤ length old) where
  -- 1 to 6 are not given
  pub below_7 : Named t → NoneBelow (text_of rules) old 7
  below_7 n = tree_below_7 old l f.some f.short (tree_of f) n.five n.six

  -- nor 7 and 8
  pub below_9 : Bounded t → NoneBelow (text_of rules) old 9
  below_9 b = tree_below_9 old l f.some f.short (tree_of f) b.named.five b.named.six b.seven b.eight

-- ---- refused

refused_as : (answer : Admission) (n p : ℕ) → (n ≡ 0 → ⊥) → (n ≡ 10 → ⊥) → number_of answer ≡ n → place_in answer ≡ p → answer ≡ Admission.Refused n p
refused_as (Admission.Admitted weight) n p z t e q = absurd (z (sym e))
refused_as (Admission.Refused number place) n p z t e q = ap₂ Admission.Refused e q
refused_as (Admission.Conflict place construct clash) n p z t e q = absurd (t (sym e))

-- the first row that fits is the answer
pub refused_by : (rules : String) (old new : List ℕ) (answer : Admission) → Promised (text_of rules) old new answer
    → (k : Row) (p : ℕ) → (number k ≡ 10 → ⊥) → (number k ≡ 0 → ⊥) → First (text_of rules) old k p → answer ≡ Admission.Refused (number k) p
refused_by rules old new answer a k p t z f = let e = (a.exactly.refused_iff k p).1 f in refused_as answer (number k) p z t e.0 e.1

-- ---- admitted

module _ (rules : String) (t : Rules) (weight : ℕ) (p : Passing rules t weight) (old : List ℕ) (l : table_words ≤ length old) where
  abbrev text : List ℕ
  text = text_of rules

  abbrev f : Formed rules t
  f = p.formed

  none_fits : NoneBelow text old 14
  none_fits =
      let b₁₀ = tree_below_10 old l f.some f.short (tree_of f) (below_9 rules t f old l p.bounded) p.no_empty_body in
      let b₁₁ = tree_below_11 old l f.some f.short (tree_of f) b₁₀ p.no_conflict in
      let b₁₂ = tree_below_12 old l f.some f.short (tree_of f) b₁₁ (λ w e. omega (arith, p.weighs w e, p.light)) in
      let b₁₃ = tree_below_13 old l f.some f.short (tree_of f) b₁₂ p.reached in
      tree_below_14 old l f.some f.short (tree_of f) b₁₃ p.valued

  -- admitted with its weight
  pub admitted : (new : List ℕ) (answer : Admission) → Promised text old new answer → answer ≡ Admission.Admitted weight
  admitted new answer a =
      let (n, e, (x, m)) = a.exactly.weight (a.exactly.admitted_iff.1 none_fits) in
      let (w, h, z) = subst (Weight n) (one_tree x (tree_of f)).1 m in
      e ∙ ap Admission.Admitted (sym z ∙ p.weighs w h)
