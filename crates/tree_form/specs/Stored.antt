-- What the reader stores of a tree: nodes in preorder, terms in postfix order, rules. Each part adds what it is made of, and then itself.
-- Assumes nothing.
use Rattle.std.specs.Prelude.{ℕ, ◌+◌, Bool, true, false, cond, not, eqb}
use Rattle.text_tokens.specs.Numbers.{capped}
use Rattle.text_store.specs.Store.{State, nodes_of, terms_of, add, single, insert, leaf, condition_on, bind, close_rule}
use Rattle.text_parsing.specs.Form.{chained}
use Rattle.tree.specs.Tree.{Primary, number, variable, Operand, plain, opposite, Factors, no_factor, times, Product, product, Summands, no_summand, plus, minus, Calculation, sum, Item, everything, only, between, from, up_to_bound, SetPart, Choices, item, item_but_item, item_but_set, last_choice, or_choices, Counts, exactly, at_least_count, at_most, span, Comparison, equal, unequal, less, at_most_as, greater, at_least_as, TestPart, Tests, compare, test_group, one_test, all_of, any_of, last_conjunct, and_conjuncts, last_disjunct, or_disjuncts, Mark, optional, any_number, one_or_more, counted, Part, Tree, literal, range, field, binder, rule_use, eod, group, switch, last_case, case_default, case_cases, once, repeated, last_member, and_members, last_branch, or_branches, Rule, rule, Rules, last_rule, and_rules}

-- ---- calculations; o is the first byte of the whole calculation

unfoldable pub start_of_primary : Primary → ℕ
start_of_primary (number n) = n.start
start_of_primary (variable x) = x.start

unfoldable pub start_of_operand : Operand → ℕ
start_of_operand (plain x) = start_of_primary x
start_of_operand (opposite s x) = s.start

unfoldable pub start_of_product : Product → ℕ
start_of_product (product x more) = start_of_operand x

unfoldable pub store_primary : ℕ → Primary → State → State
store_primary o (number n) st = add 1 (capped n.value) n.start o st
store_primary o (variable x) st = add 2 0 x.start o st

unfoldable pub store_operand : ℕ → Operand → State → State
store_operand o (plain x) st = store_primary o x st
store_operand o (opposite s x) st = add 6 0 s.start o (store_primary o x st)

unfoldable pub store_factors : ℕ → Factors → State → State
store_factors o no_factor st = st
store_factors o (times s x more) st = store_factors o more (add 5 0 s.start o (store_operand o x st))

unfoldable pub store_product : ℕ → Product → State → State
store_product o (product x more) st = store_factors o more (store_operand o x st)

unfoldable pub store_summands : ℕ → Summands → State → State
store_summands o no_summand st = st
store_summands o (plus s x more) st = store_summands o more (add 3 0 s.start o (store_product o x st))
store_summands o (minus s x more) st = store_summands o more (add 4 0 s.start o (store_product o x st))

unfoldable pub store_calculation : Calculation → State → State
store_calculation (sum x more) st = store_summands (start_of_product x) more (store_product (start_of_product x) x st)

-- ---- sets and counts

unfoldable pub store_item : Item → State → State
store_item (everything s) st = add 7 0 s.start 0 st
store_item (only a) st = single (store_calculation a st)
store_item (between a s b) st = add 8 0 s.start 0 (store_calculation b (store_calculation a st))
store_item (from a s) st = add 9 0 s.start 0 (store_calculation a st)
store_item (up_to_bound s b) st = add 10 0 s.start 0 (store_calculation b st)

-- `join` adds the sign before the first alternative, once that is stored
unfoldable pub store_set : {p : SetPart} {d : ℕ} → Choices p d → (join : State → State) → State → State
store_set (item a) join st = join (store_item a st)
store_set (item_but_item a s b) join st = join (add 12 0 s.start 0 (store_item b (store_item a st)))
store_set (item_but_set depth a s opens b closes) join st = join (add 12 0 s.start 0 (store_set b (λ x. x) (store_item a st)))
store_set (last_choice a) join st = store_set a join st
store_set (or_choices a s b) join st = store_set b (add 11 0 s.start 0) (store_set a join st)

unfoldable pub store_counts : Counts → State → State
store_counts (exactly n) st = store_calculation n st
store_counts (at_least_count a s) st = add 9 0 s.start 0 (store_calculation a st)
store_counts (at_most s b) st = add 10 0 s.start 0 (store_calculation b st)
store_counts (span a s b) st = add 8 0 s.start 0 (store_calculation b (store_calculation a st))

-- ---- conditions

abbrev pub tag_of : Comparison → ℕ
tag_of equal = 14
tag_of unequal = 15
tag_of less = 16
tag_of at_most_as = 17
tag_of greater = 18
tag_of at_least_as = 19

-- `join` as for sets
unfoldable pub store_tests : {p : TestPart} {d : ℕ} → Tests p d → (join : State → State) → State → State
store_tests (compare a c s b) join st = join (add (tag_of c) 0 s.start 0 (store_calculation b (store_calculation a st)))
store_tests (test_group depth opens a closes) join st = join (store_tests a (λ x. x) st)
store_tests (one_test a) join st = store_tests a join st
store_tests (all_of a s b) join st = store_tests b (add 13 0 s.start 0) (store_tests a join st)
store_tests (any_of a s b) join st = store_tests b (add 11 0 s.start 0) (store_tests a join st)
store_tests (last_conjunct a) join st = store_tests a join st
store_tests (and_conjuncts a s b) join st = store_tests b (add 13 0 s.start 0) (store_tests a join st)
store_tests (last_disjunct a) join st = store_tests a join st
store_tests (or_disjuncts a s b) join st = store_tests b (add 11 0 s.start 0) (store_tests a join st)

-- ---- expressions

-- where an expression's first token stands
unfoldable pub start_of : {p : Part} {d : ℕ} → Tree p d → ℕ
start_of (literal l) = l.start
start_of (range a s b one one') = a.start
start_of (field signed depth u opens n comma x closes) = u.start
start_of (binder signed depth u opens n comma v opens' x comma' y closes closes') = u.start
start_of (rule_use x other) = x.start
start_of (eod s) = s.start
start_of (group depth opens x closes) = opens.start
start_of (switch depth opens x closes) = opens.start
start_of (last_case c colon x end) = 0
start_of (case_default c colon x end colon' y end') = 0
start_of (case_cases c colon x end more) = 0
start_of (once x) = start_of x
start_of (repeated x m) = start_of x
start_of (last_member x) = start_of x
start_of (and_members x s more) = start_of x
start_of (last_branch x) = start_of x
start_of (or_branches x s more) = start_of x

-- the mark of the item that begins at p with node i
unfoldable pub store_mark : Mark → (p i : ℕ) → State → State
store_mark (optional s) p i st = insert 3 p i 1 s.start 0 0 0 st
store_mark (any_number s) p i st = insert 3 p i 2 s.start 0 0 0 st
store_mark (one_or_more s) p i st = insert 3 p i 3 s.start 0 0 0 st
store_mark (counted opens n closes) p i st = insert 3 p i 4 opens.start (terms_of st) (terms_of (store_counts n st)) 0 (store_counts n st)

-- a case: its body x is node `nodes_of a`, and its condition the terms from `terms_of st` up to `terms_of a`
abbrev pub store_case : (st a : State) → (State → State) → State
store_case st a x = condition_on (nodes_of a) (terms_of st) (terms_of a) (x a)

-- a field that binds is told from one that stands in no group
abbrev pub how_bound : ℕ → ℕ
how_bound d = cond (eqb d 2) 1 2

-- `on` says that it goes on a chain, whose node its beginning makes
unfoldable pub store : {p : Part} {d : ℕ} → Tree p d → (on : Bool) → State → State
store (literal l) on st = leaf 6 l.start 0 0 0 0 0 st
store (range a s b one one') on st = leaf 7 a.start b.start 0 0 0 0 st
store (field signed depth u opens n comma x closes) on st = leaf 8 u.start n.start 0 (terms_of st) (terms_of (store_set x (λ y. y) st)) 0 (store_set x (λ y. y) st)
store (binder {d} signed depth u opens n comma v opens' x comma' y closes closes') on st =
    leaf 8 u.start n.start x.start (terms_of st) (terms_of (store_set y (λ z. z) (bind st))) (how_bound (d + 1 + 1)) (store_set y (λ z. z) (bind st))
store (rule_use x other) on st = leaf 5 x.start 0 0 0 0 0 st
store (eod s) on st = leaf 9 s.start 0 0 0 0 0 st
store (group depth opens x closes) on st = store x false st
store (switch depth opens x closes) on st = insert 4 opens.start (nodes_of st) 0 0 0 0 0 (store x false st)
store (last_case c colon x end) on st = store_case st (store_tests c (λ y. y) st) (store x false)
store (case_default c colon x end colon' y end') on st = store y false (store_case st (store_tests c (λ z. z) st) (store x false))
store (case_cases c colon x end more) on st = store more false (store_case st (store_tests c (λ y. y) st) (store x false))
store (once x) on st = store x false st
store (repeated x m) on st = store_mark m (start_of x) (nodes_of st) (store x false st)
store (last_member x) on st = store x false st
store (and_members x s more) on st = chained 2 (not on) (start_of x) (nodes_of st) (store more true (store x false st))
store (last_branch x) on st = store x false st
store (or_branches x s more) on st = chained 1 (not on) (start_of x) (nodes_of st) (store more true (store x false st))

-- ---- rules

abbrev pub store_rule : Rule → State → State
store_rule (rule x is e end) st = close_rule x.start (nodes_of st) (store e false st)

unfoldable pub stored : Rules → State → State
stored (last_rule r) st = store_rule r st
stored (and_rules r more) st = stored more (store_rule r st)
