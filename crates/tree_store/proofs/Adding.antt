-- What a formula adds to the terms of a store.
-- Assumes nothing.
use Prim.Native.Nat.{ℕ, ◌≤◌}
use mathlib.Core.Path.{refl, sym}
use mathlib.Core.List.{List, [], ◌∷◌, ◌++◌, append-nil, append_assoc}
use lib.ListN.{length}
use native.Mathlib.Omega.{arith}
use lib.ListN.{length-append}
use Rattle.text_store.specs.Store.{State, add, single}
use Rattle.tree.specs.Tree.{Primary, number, variable, Operand, plain, opposite, Factors, no_factor, times, Product, product, Summands, no_summand, plus, minus, Calculation, sum, Item, everything, only, between, from, up_to_bound, SetPart, Choices, item, item_but_item, item_but_set, last_choice, or_choices, Counts, exactly, at_least_count, at_most, span, TestPart, Tests, compare, test_group, one_test, all_of, any_of, last_conjunct, and_conjuncts, last_disjunct, or_disjuncts}
use Rattle.tree_form.specs.Stored.{start_of_product, store_primary, store_operand, store_factors, store_product, store_summands, store_calculation, store_item, store_set, store_counts, tag_of, store_tests}
use Rattle.tree_store.proofs.Rows.{NodeRow, TermRow, a_term, last_marked, RuleRow, primary_rows, operand_rows, factors_rows, product_rows, summands_rows, calculation_rows, item_rows, set_rows, counts_rows, tests_rows}
use Rattle.tree_store.proofs.Holding.{Holds, held_as, add_holds, single_holds, marked_second}
use Rattle.tree_store.proofs.Lengths.{some_calculation}

-- a step of the reader that adds these terms and nothing else
pub record Adds (f : State → State) (A : List TermRow) : Type 0 where
  pub adds : (N : List NodeRow) (T : List TermRow) (b : ℕ) (R : List RuleRow) (st : State) → Holds N T b R st → Holds N (T ++ A) b R (f st)

pub adds_none : Adds (λ st. st) []
adds_none = record { adds = λ N T b R st h. held_as refl (sym (append-nil T)) refl h }

pub adds_one : (tag value place origin : ℕ) → Adds (λ st. add tag value place origin st) (a_term tag value place origin ∷ [])
adds_one tag value place origin = record { adds = λ N T b R st h. add_holds tag value place origin N T b R st h }

pub adds_then : {f g : State → State} {A B : List TermRow} → Adds f A → Adds g B → Adds (λ st. g (f st)) (A ++ B)
adds_then {f} {g} {A} {B} x y =
    record { adds = λ N T b R st h. held_as refl (append_assoc T A B) refl (y.adds N (T ++ A) b R (f st) (x.adds N T b R st h)) }

adds_single : {f : State → State} {A : List TermRow} → 1 ≤ length A → Adds f A → Adds (λ st. single (f st)) (last_marked A)
adds_single {f} {A} some x =
    record { adds = λ N T b R st h. held_as refl (marked_second T A some) refl (single_holds N (T ++ A) b R (f st) (omega (arith, length-append T A)) (x.adds N T b R st h)) }

-- ---- calculations

primary_adds : (o : ℕ) (x : Primary) → Adds (λ st. store_primary o x st) (primary_rows o x)
unfolding store_primary primary_rows
primary_adds o (number n) = adds_one _ _ _ _
primary_adds o (variable x) = adds_one _ _ _ _

operand_adds : (o : ℕ) (x : Operand) → Adds (λ st. store_operand o x st) (operand_rows o x)
unfolding store_operand operand_rows
operand_adds o (plain x) = primary_adds o x
operand_adds o (opposite s x) = adds_then (primary_adds o x) (adds_one 6 0 s.start o)

factors_adds : (o : ℕ) (x : Factors) → Adds (λ st. store_factors o x st) (factors_rows o x)
unfolding store_factors factors_rows
factors_adds o no_factor = adds_none
factors_adds o (times s x more) = adds_then (operand_adds o x) (adds_then (adds_one 5 0 s.start o) (factors_adds o more))

product_adds : (o : ℕ) (x : Product) → Adds (λ st. store_product o x st) (product_rows o x)
unfolding store_product product_rows
product_adds o (product x more) = adds_then (operand_adds o x) (factors_adds o more)

summands_adds : (o : ℕ) (x : Summands) → Adds (λ st. store_summands o x st) (summands_rows o x)
unfolding store_summands summands_rows
summands_adds o no_summand = adds_none
summands_adds o (plus s x more) = adds_then (product_adds o x) (adds_then (adds_one 3 0 s.start o) (summands_adds o more))
summands_adds o (minus s x more) = adds_then (product_adds o x) (adds_then (adds_one 4 0 s.start o) (summands_adds o more))

calculation_adds : (x : Calculation) → Adds (λ st. store_calculation x st) (calculation_rows x)
unfolding store_calculation calculation_rows
calculation_adds (sum x more) = adds_then (product_adds (start_of_product x) x) (summands_adds (start_of_product x) more)

-- ---- sets, counts and conditions

item_adds : (x : Item) → Adds (λ st. store_item x st) (item_rows x)
unfolding store_item item_rows
item_adds (everything s) = adds_one 7 0 s.start 0
item_adds (only a) = adds_single (some_calculation a) (calculation_adds a)
item_adds (between a s b) = adds_then (calculation_adds a) (adds_then (calculation_adds b) (adds_one 8 0 s.start 0))
item_adds (from a s) = adds_then (calculation_adds a) (adds_one 9 0 s.start 0)
item_adds (up_to_bound s b) = adds_then (calculation_adds b) (adds_one 10 0 s.start 0)

pub set_adds : {p : SetPart} {d : ℕ} (x : Choices p d) {join : State → State} {j : List TermRow} → Adds join j → Adds (λ st. store_set x join st) (set_rows x j)
unfolding store_set set_rows
set_adds (item a) j = adds_then (item_adds a) j
set_adds (item_but_item a s b) j = adds_then (item_adds a) (adds_then (item_adds b) (adds_then (adds_one 12 0 s.start 0) j))
set_adds (item_but_set depth a s opens b closes) j = adds_then (item_adds a) (adds_then (set_adds b adds_none) (adds_then (adds_one 12 0 s.start 0) j))
set_adds (last_choice a) j = set_adds a j
set_adds (or_choices a s b) j = adds_then (set_adds a j) (set_adds b (adds_one 11 0 s.start 0))

pub counts_adds : (x : Counts) → Adds (λ st. store_counts x st) (counts_rows x)
unfolding store_counts counts_rows
counts_adds (exactly n) = calculation_adds n
counts_adds (at_least_count a s) = adds_then (calculation_adds a) (adds_one 9 0 s.start 0)
counts_adds (at_most s b) = adds_then (calculation_adds b) (adds_one 10 0 s.start 0)
counts_adds (span a s b) = adds_then (calculation_adds a) (adds_then (calculation_adds b) (adds_one 8 0 s.start 0))

pub tests_adds : {p : TestPart} {d : ℕ} (x : Tests p d) {join : State → State} {j : List TermRow} → Adds join j → Adds (λ st. store_tests x join st) (tests_rows x j)
unfolding store_tests tests_rows
tests_adds (compare a c s b) j = adds_then (calculation_adds a) (adds_then (calculation_adds b) (adds_then (adds_one (tag_of c) 0 s.start 0) j))
tests_adds (test_group depth opens a closes) j = adds_then (tests_adds a adds_none) j
tests_adds (one_test a) j = tests_adds a j
tests_adds (all_of a s b) j = adds_then (tests_adds a j) (tests_adds b (adds_one 13 0 s.start 0))
tests_adds (any_of a s b) j = adds_then (tests_adds a j) (tests_adds b (adds_one 11 0 s.start 0))
tests_adds (last_conjunct a) j = tests_adds a j
tests_adds (and_conjuncts a s b) j = adds_then (tests_adds a j) (tests_adds b (adds_one 13 0 s.start 0))
tests_adds (last_disjunct a) j = tests_adds a j
tests_adds (or_disjuncts a s b) j = adds_then (tests_adds a j) (tests_adds b (adds_one 11 0 s.start 0))
