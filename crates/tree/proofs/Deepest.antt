-- "parentheses and switch brackets of every kind go at most 16 deep": sixteen deep, nothing is opened.
-- Assumes nothing.
use Prim.Native.Nat.{ℕ}
use native.Mathlib.Omega.{arith}
use Rattle.tree.specs.Tree.{choice, Choices, item, item_but_item, item_but_set, test, Tests, compare, test_group, atom, Tree, literal, range, field, binder, rule_use, eod, group, switch}

abbrev OpensNoSet : {d : ℕ} → Choices choice d → Type 0
OpensNoSet (item a) = Unit {0}
OpensNoSet (item_but_item a s b) = Unit {0}
OpensNoSet (item_but_set l a s o b c) = ⊥

abbrev OpensNoTest : {d : ℕ} → Tests test d → Type 0
OpensNoTest (compare a i s b) = Unit {0}
OpensNoTest (test_group l o a c) = ⊥

abbrev OpensNothing : {d : ℕ} → Tree atom d → Type 0
OpensNothing (literal l) = Unit {0}
OpensNothing (range a s b one one') = Unit {0}
OpensNothing (field g l u o n m x c) = ⊥
OpensNothing (binder g l u o n m v o' x m' y c c') = ⊥
OpensNothing (rule_use x other) = Unit {0}
OpensNothing (eod s) = Unit {0}
OpensNothing (group l o x c) = ⊥
OpensNothing (switch l o x c) = ⊥

pub deepest_choice : (a : Choices choice 16) → OpensNoSet a
deepest_choice (item a) = tt
deepest_choice (item_but_item a s b) = tt
deepest_choice (item_but_set l a s o b c) = omega arith

pub deepest_test : (a : Tests test 16) → OpensNoTest a
deepest_test (compare a i s b) = tt
deepest_test (test_group l o a c) = omega arith

pub deepest : (a : Tree atom 16) → OpensNothing a
deepest (literal l) = tt
deepest (range a s b one one') = tt
deepest (field g l u o n m x c) = omega arith
deepest (binder g l u o n m v o' x m' y c c') = omega arith
deepest (rule_use x other) = tt
deepest (eod s) = tt
deepest (group l o x c) = omega arith
deepest (switch l o x c) = omega arith
