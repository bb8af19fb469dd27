-- Nodes that are rows but for the condition of the first, which may be the body of a case.
-- Assumes nothing.
use Prim.Native.Nat.{ℕ, suc, ◌+◌, ◌≤◌}
use mathlib.Core.Path.{◌≡◌, refl, ap, ap₂, ◌∙◌, subst}
use mathlib.Core.Bool.{false}
use mathlib.Core.List.{List, [], ◌∷◌, ◌++◌}
use native.Mathlib.Omega.{arith}
use lib.ListN.{length, length-append}
use Rattle.text_store.specs.Words.{kind_of, node_size, place_of, node_mark, second_place, own_from, own_end, how_bound, condition_from, condition_end}
use Rattle.text_meaning.specs.Meaning.{parts_from, parts_of}
use Rattle.tree.specs.Tree.{Mark, optional, any_number, one_or_more, counted, Part, Tree, literal, range, field, binder, rule_use, eod, group, switch, last_case, case_default, case_cases, once, repeated, last_member, and_members, last_branch, or_branches, TestPart, Tests, compare, test_group, one_test, all_of, any_of, last_conjunct, and_conjuncts, last_disjunct, or_disjuncts}
use Rattle.tree_form.specs.Stored.{tag_of}
use Rattle.tree_store.proofs.Rows.{NodeRow, TermRow, a_term, on_first, mark_row, node_rows, tests_rows, calculation_rows}
use Rattle.tree_store.proofs.Lengths.{some_node, some_calculation}
use Rattle.tree_store.proofs.Spots.{LikeAt, none_like, next_like}
use Rattle.tree_store.proofs.Rowed.{NodesAt, no_nodes, node_then, nodes_left, nodes_right}
use Rattle.tree_grammar.proofs.Parts.{Whole}

-- a node is this row, but for its condition
pub record Plain (ns : List ℕ) (i : ℕ) (r : NodeRow) : Type 0 where
  pub kind_is : kind_of ns i ≡ r.kind
  pub size_is : node_size ns i ≡ r.size
  pub place_is : place_of ns i ≡ r.place
  pub first_is : node_mark ns i ≡ r.first
  pub second_is : second_place ns i ≡ r.second
  pub own_from_is : own_from ns i ≡ r.own_from
  pub own_end_is : own_end ns i ≡ r.own_end
  pub how_is : how_bound ns i ≡ r.how

pub data FirstAt (ns : List ℕ) : ℕ → List NodeRow → Type 0 where
  first_none : {i : ℕ} → FirstAt ns i []
  first_then : {i : ℕ} {r : NodeRow} {M : List NodeRow} → Plain ns i r → NodesAt ns (suc i) M → FirstAt ns i (r ∷ M)

next_at : {ns : List ℕ} {i : ℕ} {M : List NodeRow} → NodesAt ns (i + 1) M → NodesAt ns (suc i) M
next_at {ns} {i} {M} h = subst (λ (k : ℕ). NodesAt ns k M) (let q : i + 1 ≡ suc i = omega arith in q) h

pub whole_first : {ns : List ℕ} {i : ℕ} (M : List NodeRow) → NodesAt ns i M → FirstAt ns i M
whole_first [] no_nodes = first_none
whole_first (r ∷ M) (node_then h more) =
    first_then (record { kind_is = h.kind_is; size_is = h.size_is; place_is = h.place_is; first_is = h.first_is; second_is = h.second_is; own_from_is = h.own_from_is; own_end_is = h.own_end_is; how_is = h.how_is }) (next_at more)

pub uncased : {ns : List ℕ} {i : ℕ} (f g : ℕ) (M : List NodeRow) → FirstAt ns i (on_first f g M) → FirstAt ns i M
uncased f g [] h = first_none
uncased f g (r ∷ M) (first_then h more) =
    first_then (record { kind_is = h.kind_is; size_is = h.size_is; place_is = h.place_is; first_is = h.first_is; second_is = h.second_is; own_from_is = h.own_from_is; own_end_is = h.own_end_is; how_is = h.how_is }) more

pub first_left : {ns : List ℕ} {i : ℕ} (M L : List NodeRow) → FirstAt ns i (M ++ L) → FirstAt ns i M
first_left [] L h = first_none
first_left (r ∷ M) L (first_then h more) = first_then h (nodes_left M L more)

pub first_right : {ns : List ℕ} {i : ℕ} (M L : List NodeRow) → 1 ≤ length M → FirstAt ns i (M ++ L) → NodesAt ns (i + length M) L
first_right [] L l h = absurd (omega arith)
first_right {ns} {i} (r ∷ M) L l (first_then h more) = subst (λ (q : ℕ). NodesAt ns q L) (let q : suc i + length M ≡ i + suc (length M) = omega arith in q) (nodes_right M L more)

nodes_like : {ns : List ℕ} {i : ℕ} (M : List NodeRow) → NodesAt ns i M → LikeAt ns i M
nodes_like [] no_nodes = none_like
nodes_like {i = i} (x ∷ M) (node_then h more) = next_like (record { kind_like = h.kind_is; size_like = h.size_is; second_like = h.second_is; how_like = h.how_is }) (nodes_like {i = i + 1} M more)

pub first_like : {ns : List ℕ} {i : ℕ} (M : List NodeRow) → FirstAt ns i M → LikeAt ns i M
first_like [] first_none = none_like
first_like {ns} {i} (x ∷ M) (first_then h more) =
    next_like (record { kind_like = h.kind_is; size_like = h.size_is; second_like = h.second_is; how_like = h.how_is }) (subst (λ (k : ℕ). LikeAt ns k M) (let q : suc i ≡ i + 1 = omega arith in q) (nodes_like M more))

-- ---- conditions of the first

pub case_at : {ns : List ℕ} {i : ℕ} (f g : ℕ) (M : List NodeRow) → 1 ≤ length M → NodesAt ns i (on_first f g M) → (condition_from ns i ≡ f) × (condition_end ns i ≡ g)
case_at f g [] l h = absurd (omega arith)
case_at f g (r ∷ M) l (node_then h more) = (h.case_from_is, h.case_end_is)

abbrev NoCase : List NodeRow → Type 0
NoCase [] = Unit {0}
NoCase (r ∷ M) = (r.case_from ≡ 0) × (r.case_end ≡ 0)

mark_none : (m : Mark) (size p t : ℕ) → ((mark_row m size p t).case_from ≡ 0) × ((mark_row m size p t).case_end ≡ 0)
mark_none (optional s) size p t = (refl, refl)
mark_none (any_number s) size p t = (refl, refl)
mark_none (one_or_more s) size p t = (refl, refl)
mark_none (counted opens n closes) size p t = (refl, refl)

no_case : {p : Part} {d : ℕ} (x : Tree p d) (t : ℕ) → Whole p → NoCase (node_rows false x t)
unfolding node_rows
no_case (literal l) t w = (refl, refl)
no_case (range a s b one one') t w = (refl, refl)
no_case (field signed depth u opens n comma x closes) t w = (refl, refl)
no_case (binder signed depth u opens n comma v opens' x comma' y closes closes') t w = (refl, refl)
no_case (rule_use x other) t w = (refl, refl)
no_case (eod s) t w = (refl, refl)
no_case (group depth opens x closes) t w = no_case x t tt
no_case (switch depth opens x closes) t w = (refl, refl)
no_case (last_case c colon x end) t w = absurd w
no_case (case_default c colon x end colon' y end') t w = absurd w
no_case (case_cases c colon x end more) t w = absurd w
no_case (once x) t w = no_case x t tt
no_case (repeated x m) t w = mark_none m _ _ _
no_case (last_member x) t w = no_case x t tt
no_case (and_members x s more) t w = (refl, refl)
no_case (last_branch x) t w = no_case x t tt
no_case (or_branches x s more) t w = (refl, refl)

none_of : {ns : List ℕ} {i : ℕ} (M : List NodeRow) → 1 ≤ length M → NoCase M → NodesAt ns i M → (condition_from ns i ≡ 0) × (condition_end ns i ≡ 0)
none_of [] l n h = absurd (omega arith)
none_of (r ∷ M) l n (node_then h more) = (h.case_from_is ∙ n.0, h.case_end_is ∙ n.1)

-- a default has no condition
pub none_at : {ns : List ℕ} {i : ℕ} {p : Part} {d : ℕ} (x : Tree p d) (t : ℕ) → Whole p → NodesAt ns i (node_rows false x t) → (condition_from ns i ≡ 0) × (condition_end ns i ≡ 0)
none_at x t w h = none_of (node_rows false x t) (some_node false x t) (no_case x t w) h

-- a condition has a term
pub some_tests : {k : TestPart} {d : ℕ} (c : Tests k d) (j : List TermRow) → 1 ≤ length (tests_rows c j)
unfolding tests_rows
some_tests (compare a c s b) j = omega (arith, length-append (calculation_rows a) (calculation_rows b ++ (a_term (tag_of c) 0 s.start 0 ∷ j)), some_calculation a)
some_tests (test_group depth opens a closes) j = omega (arith, length-append (tests_rows a []) j, some_tests a [])
some_tests (one_test a) j = some_tests a j
some_tests (all_of a s b) j = omega (arith, length-append (tests_rows a j) (tests_rows b (a_term 13 0 s.start 0 ∷ [])), some_tests a j)
some_tests (any_of a s b) j = omega (arith, length-append (tests_rows a j) (tests_rows b (a_term 11 0 s.start 0 ∷ [])), some_tests a j)
some_tests (last_conjunct a) j = some_tests a j
some_tests (and_conjuncts a s b) j = omega (arith, length-append (tests_rows a j) (tests_rows b (a_term 13 0 s.start 0 ∷ [])), some_tests a j)
some_tests (last_disjunct a) j = some_tests a j
some_tests (or_disjuncts a s b) j = omega (arith, length-append (tests_rows a j) (tests_rows b (a_term 11 0 s.start 0 ∷ [])), some_tests a j)

-- ---- parts of a node of this size

pub parts_sized : (ns : List ℕ) (i size : ℕ) (l : List ℕ) → node_size ns i ≡ suc size → parts_from ns (suc size) (suc i) (suc i + size) ≡ l → parts_of ns i ≡ l
parts_sized ns i size l e f =
    ap (λ (k : ℕ). parts_from ns k (i + 1) (i + k)) e ∙ ap₂ (parts_from ns (suc size)) (let q : i + 1 ≡ suc i = omega arith in q) (let q : i + suc size ≡ suc i + size = omega arith in q) ∙ f
