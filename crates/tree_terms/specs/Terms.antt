-- The calculations, sets, counts and conditions of a syntax tree as those of `term_trees`, whose postfix order lists of terms are: signs of one kind are joined
-- from the left. `variable`: a variable's number, by its letters.
-- Assumes nothing.
use Rattle.std.specs.Prelude.{ℕ, List}
use Rattle.std.proofs.Math.Option.{Option, none, some}
use Rattle.term_words.specs.declared.Comparison.{Comparison as Compared}
use Rattle.term_trees.specs.Trees.{Calculation as TermCalculation, literal, use_of, plus as added, minus as less_by, times as multiplied, opposite as negated, ValueSet as TermSet, everything as all-values, only as one_value, between as from_to, from as on-from-value, up_to, either, without, Condition as TermCondition, compare as compared, both, any, Repeats, exact, on_from, up_to_bound as at-most-times, spanning}
use Rattle.tree.specs.Tree.{Primary, number, variable, Operand, plain, opposite, Factors, no_factor, times, Product, product, Summands, no_summand, plus, minus, Calculation, sum, Item, everything, only, between, from, up_to_bound, SetPart, Choices, item, item_but_item, item_but_set, last_choice, or_choices, Counts, exactly, at_least_count, at_most, span, Comparison, equal, unequal, less, at_most_as, greater, at_least_as, TestPart, tests, test, conjuncts, disjuncts, Tests, compare, test_group, one_test, all_of, any_of, last_conjunct, and_conjuncts, last_disjunct, or_disjuncts}

-- `= != < <= > >=`
abbrev pub comparison_term : Comparison → Compared
comparison_term equal = Compared.Equal
comparison_term unequal = Compared.Unequal
comparison_term less = Compared.Less
comparison_term at_most_as = Compared.AtMost
comparison_term greater = Compared.Greater
comparison_term at_least_as = Compared.AtLeast

-- a set that stands before a `|`, if there is one
abbrev pub set_after : Option TermSet → TermSet → TermSet
set_after none x = x
set_after (some y) x = either y x

-- a condition that stands before an `&` or a `|`
pub data Before : Type 0 where
  alone : Before
  and_after : TermCondition → Before
  or_after : TermCondition → Before

abbrev pub test_after : Before → TermCondition → TermCondition
test_after alone x = x
test_after (and_after y) x = both y x
test_after (or_after y) x = any y x

-- what stands before each part of a condition
abbrev pub BeforePart : TestPart → Type 0
BeforePart tests = Unit {0}
BeforePart test = Before
BeforePart conjuncts = TermCondition
BeforePart disjuncts = TermCondition

module _ (numbered : List ℕ → ℕ) where
  abbrev pub primary_tree : Primary → TermCalculation
  primary_tree (number n) = literal n.value
  primary_tree (variable x) = use_of (numbered x.letters)

  abbrev pub operand_tree : Operand → TermCalculation
  operand_tree (plain x) = primary_tree x
  operand_tree (opposite s x) = negated (primary_tree x)

  unfoldable pub times_tree : TermCalculation → Factors → TermCalculation
  times_tree a no_factor = a
  times_tree a (times s x more) = times_tree (multiplied a (operand_tree x)) more

  abbrev pub product_tree : Product → TermCalculation
  product_tree (product x more) = times_tree (operand_tree x) more

  unfoldable pub sum_tree : TermCalculation → Summands → TermCalculation
  sum_tree a no_summand = a
  sum_tree a (plus s x more) = sum_tree (added a (product_tree x)) more
  sum_tree a (minus s x more) = sum_tree (less_by a (product_tree x)) more

  abbrev pub calculation_tree : Calculation → TermCalculation
  calculation_tree (sum x more) = sum_tree (product_tree x) more

  abbrev pub item_tree : Item → TermSet
  item_tree (everything s) = all-values
  item_tree (only a) = one_value (calculation_tree a)
  item_tree (between a s b) = from_to (calculation_tree a) (calculation_tree b)
  item_tree (from a s) = on-from-value (calculation_tree a)
  item_tree (up_to_bound s b) = up_to (calculation_tree b)

  unfoldable pub set_tree : {p : SetPart} {d : ℕ} → Option TermSet → Choices p d → TermSet
  set_tree o (item a) = set_after o (item_tree a)
  set_tree o (item_but_item a s b) = set_after o (without (item_tree a) (item_tree b))
  set_tree o (item_but_set depth a s opens b closes) = set_after o (without (item_tree a) (set_tree none b))
  set_tree o (last_choice a) = set_tree o a
  set_tree o (or_choices a s b) = set_tree (some (set_tree o a)) b

  abbrev pub counts_tree : Counts → Repeats
  counts_tree (exactly n) = exact (calculation_tree n)
  counts_tree (at_least_count a s) = on_from (calculation_tree a)
  counts_tree (at_most s b) = at-most-times (calculation_tree b)
  counts_tree (span a s b) = spanning (calculation_tree a) (calculation_tree b)

  unfoldable pub tests_tree : {p : TestPart} {d : ℕ} → BeforePart p → Tests p d → TermCondition
  tests_tree o (compare a c s b) = test_after o (compared (comparison_term c) (calculation_tree a) (calculation_tree b))
  tests_tree o (test_group depth opens a closes) = test_after o (tests_tree tt a)
  tests_tree o (one_test a) = tests_tree alone a
  tests_tree o (all_of a s b) = tests_tree (tests_tree alone a) b
  tests_tree o (any_of a s b) = tests_tree (tests_tree alone a) b
  tests_tree o (last_conjunct a) = tests_tree (and_after o) a
  tests_tree o (and_conjuncts a s b) = tests_tree (tests_tree (and_after o) a) b
  tests_tree o (last_disjunct a) = tests_tree (or_after o) a
  tests_tree o (or_disjuncts a s b) = tests_tree (tests_tree (or_after o) a) b
