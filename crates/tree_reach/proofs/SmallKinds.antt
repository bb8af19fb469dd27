-- Kinds of nodes are small, and a use has no parts.
-- Assumes nothing.
use Prim.Native.Nat.{ℕ, ◌+◌, ◌<◌}
use mathlib.Core.Path.{◌≡◌, refl}
use mathlib.Core.Bool.{Bool, true, false}
use mathlib.Core.List.{List, [], ◌∷◌, ◌++◌}
use borrow.Author.Tests.{ltb-true, eqb-false}
use lib.Dec.{ltb, eqb}
use lib.ListN.{length}
use Rattle.tree.specs.Tree.{Mark, optional, any_number, one_or_more, counted, Part, Tree, literal, range, field, binder, rule_use, eod, group, switch, last_case, case_default, case_cases, once, repeated, last_member, and_members, last_branch, or_branches, Rule}
use Rattle.tree_meaning.specs.Pieces.{rule_body}
use Rattle.tree_store.proofs.Rows.{NodeRow, on_first, tests_rows, term_rows, mark_row, node_rows, rules_nodes}

pub record Sound (r : NodeRow) : Type 0 where
  pub small : r.kind < 10
  pub single : r.kind ≡ 5 → r.size ≡ 1

pub data Kinds : List NodeRow → Type 0 where
  no_kinds : Kinds []
  next_kind : {r : NodeRow} {M : List NodeRow} → Sound r → Kinds M → Kinds (r ∷ M)

other_next : {r : NodeRow} {M : List NodeRow} → ltb r.kind 10 ≡ true → eqb r.kind 5 ≡ false → Kinds M → Kinds (r ∷ M)
other_next {r} e f a = next_kind (record { small = ltb-true r.kind 10 e; single = λ k. absurd (eqb-false r.kind 5 f k) }) a

use_next : {r : NodeRow} {M : List NodeRow} → ltb r.kind 10 ≡ true → r.size ≡ 1 → Kinds M → Kinds (r ∷ M)
use_next {r} e f a = next_kind (record { small = ltb-true r.kind 10 e; single = λ k. f }) a

two_kinds : {M L : List NodeRow} → Kinds M → Kinds L → Kinds (M ++ L)
two_kinds no_kinds b = b
two_kinds (next_kind h a) b = next_kind h (two_kinds a b)

cased_kinds : (f g : ℕ) {M : List NodeRow} → Kinds M → Kinds (on_first f g M)
cased_kinds f g no_kinds = no_kinds
cased_kinds f g (next_kind h a) = next_kind (record { small = h.small; single = h.single }) a

marked_kinds : (m : Mark) (size p t : ℕ) {M : List NodeRow} → Kinds M → Kinds (mark_row m size p t ∷ M)
marked_kinds (optional s) size p t a = other_next refl refl a
marked_kinds (any_number s) size p t a = other_next refl refl a
marked_kinds (one_or_more s) size p t a = other_next refl refl a
marked_kinds (counted opens n closes) size p t a = other_next refl refl a

pub tree_kinds : {p : Part} {d : ℕ} (on : Bool) (x : Tree p d) (t : ℕ) → Kinds (node_rows on x t)
unfolding node_rows
tree_kinds on (literal l) t = other_next refl refl no_kinds
tree_kinds on (range a s b one one') t = other_next refl refl no_kinds
tree_kinds on (field signed depth u opens n comma x closes) t = other_next refl refl no_kinds
tree_kinds on (binder signed depth u opens n comma v opens' x comma' y closes closes') t = other_next refl refl no_kinds
tree_kinds on (rule_use x other) t = use_next refl refl no_kinds
tree_kinds on (eod s) t = other_next refl refl no_kinds
tree_kinds on (group depth opens x closes) t = tree_kinds false x t
tree_kinds on (switch depth opens x closes) t = other_next refl refl (tree_kinds false x t)
tree_kinds on (last_case c colon x end) t = cased_kinds t (t + length (tests_rows c [])) (tree_kinds false x (t + length (tests_rows c [])))
tree_kinds on (case_default c colon x end colon' y end') t = two_kinds (cased_kinds t (t + length (tests_rows c [])) (tree_kinds false x (t + length (tests_rows c [])))) (tree_kinds false y (t + length (tests_rows c [] ++ term_rows x)))
tree_kinds on (case_cases c colon x end more) t = two_kinds (cased_kinds t (t + length (tests_rows c [])) (tree_kinds false x (t + length (tests_rows c [])))) (tree_kinds false more (t + length (tests_rows c [] ++ term_rows x)))
tree_kinds on (once x) t = tree_kinds false x t
tree_kinds on (repeated x m) t = marked_kinds m _ _ _ (tree_kinds false x t)
tree_kinds on (last_member x) t = tree_kinds false x t
tree_kinds false (and_members x s more) t = other_next refl refl (two_kinds (tree_kinds false x t) (tree_kinds true more (t + length (term_rows x))))
tree_kinds true (and_members x s more) t = two_kinds (tree_kinds false x t) (tree_kinds true more (t + length (term_rows x)))
tree_kinds on (last_branch x) t = tree_kinds false x t
tree_kinds false (or_branches x s more) t = other_next refl refl (two_kinds (tree_kinds false x t) (tree_kinds true more (t + length (term_rows x))))
tree_kinds true (or_branches x s more) t = two_kinds (tree_kinds false x t) (tree_kinds true more (t + length (term_rows x)))

pub rules_kinds : (t : ℕ) (l : List Rule) → Kinds (rules_nodes t l)
unfolding rules_nodes
rules_kinds t [] = no_kinds
rules_kinds t (r ∷ l) = two_kinds (tree_kinds false (rule_body r) t) (rules_kinds (t + length (term_rows (rule_body r))) l)
