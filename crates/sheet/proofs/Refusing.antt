-- K5, K8 and K11: refused.
-- Assumes nothing.
use Prim.Native.Nat.{ℕ}
use mathlib.Core.Path.{◌≡◌, refl, sym, ap, subst, ◌∙◌}
use mathlib.Core.Option.{some}
use native.Mathlib.Omega.{arith}
use native.Mathlib.Decide.{dec_lt}
use Rattle.theory.specs.Lookahead.{Conflict}
use Rattle.tree.specs.Tree.{Rules}
use Rattle.tree_meaning.specs.Grammar.{tree_grammar}
use Rattle.tree_meaning.proofs.Sheet as trees
use Rattle.text_admission.specs.Answers.{place_in}
use Rattle.text_admission.specs.declared.Admission.{Admission}
use Rattle.admission.specs.Refusals.{recursive, empty_body, clashing, Clashed}
use Rattle.admission.proofs.Rows.{one_tree}
use Rattle.admission.proofs.Trees.{tree_below_10}
use Rattle.sheet.specs.Sheet.{K5, K8, K11, refused, clash, row, Clashes, Says}
use Rattle.sheet.proofs.Texts.{formed_K5, formed_K8, formed_K11}
use Rattle.sheet.proofs.Stages.{bounded_K5, bounded_K8, named_K11, recursive_K11}
use Rattle.sheet.proofs.Admitting.{tree_of, below_7, below_9, refused_by}
use Rattle.sheet.proofs.Clashing.{empty_bodies_K8, letter_A, conflict_A, window_K5, clashes_K5, filled_K5}

-- ---- K11: `a = "x" & b; b = a;`

pub says_K11 : Says (row K11 (refused 7 16))
says_K11 old new answer l a =
    refused_by K11 old new answer a recursive 16 (λ e. omega arith) (λ e. omega arith) ((tree_of formed_K11, 0, recursive_K11, refl), below_7 K11 trees.K11 formed_K11 old l named_K11)

-- ---- K8: `frame = ("A"?)*;`

pub says_K8 : Says (row K8 (refused 9 30))
says_K8 old new answer l a =
    refused_by K8 old new answer a empty_body 30 (λ e. omega arith) (λ e. omega arith) ((tree_of formed_K8, 14, empty_bodies_K8, refl), below_9 K8 trees.K8 formed_K8 old l bounded_K8)

-- ---- K5: `frame = "AB" | "Ac";`

module _ (answer : Admission) (p : ℕ) (c : Clashed answer trees.K5 p) where
  -- the first construct that clashes
  first_is : c.construct ≡ 0
  first_is =
      elim (dec_lt 0 c.construct) [
        | yes l ↦ absurd (c.before 0 l (letter_A, conflict_A))
        | no l ↦ (let z : c.construct ≡ 0 = omega arith in z)
      ]

  clashed : place_in answer ≡ 24 → Clashes 24 321 answer
  clashed e =
      let d : Conflict (tree_grammar trees.K5) 0 c.window = subst (λ (i : ℕ). Conflict (tree_grammar trees.K5) i c.window) first_is c.least.common in
      subst (Clashes 24 321) (sym c.answered) (sym (ap place_in c.answered) ∙ e, c.carried ∙ ap some (window_K5 c.window d))

pub says_K5 : Says (row K5 (clash 24 321))
says_K5 old new answer l a =
    let before = tree_below_10 old l formed_K5.some formed_K5.short (tree_of formed_K5) (below_9 K5 trees.K5 formed_K5 old l bounded_K5) filled_K5 in
    let e = (a.exactly.refused_iff clashing 24).1 ((tree_of formed_K5, 8, clashes_K5, refl), before) in
    let (x, p, c, z) = a.exactly.clash e.0 in
    clashed answer p (subst (λ (t : Rules). Clashed answer t p) (one_tree x (tree_of formed_K5)).1 c) e.1
