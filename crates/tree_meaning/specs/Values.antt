-- What calculations, sets, counts and conditions mean, at the values of the variables.
-- Assumes nothing.
use Rattle.std.specs.Prelude.{ℕ, Bool, true, not, ◌&&◌, ◌||◌, List, ℤ, pos, neg_ℤ, ◌+ℤ◌, ◌-ℤ◌, ◌*ℤ◌}
use Rattle.std.specs.Int.Signed.{le_z, lt_z}
use Rattle.basis.specs.Counts.{Counts as Passes, exactly as just, at_least, span as from_to}
use Rattle.tree.specs.Tree.{Primary, number, variable, Operand, plain, opposite, Factors, no_factor, times, Product, product, Summands, no_summand, plus, minus, Calculation, sum, Item, everything, only, between, from, up_to_bound, SetPart, Choices, item, item_but_item, item_but_set, last_choice, or_choices, Counts, exactly, at_least_count, at_most, span, Comparison, equal, unequal, less, at_most_as, greater, at_least_as, TestPart, Tests, compare, test_group, one_test, all_of, any_of, last_conjunct, and_conjuncts, last_disjunct, or_disjuncts}

-- the value of each variable, by its letters
abbrev pub Environment : Type 0
Environment = List ℕ → ℤ

-- two whole numbers are one
abbrev pub equal_z : ℤ → ℤ → Bool
equal_z a b = le_z a b && le_z b a

-- `= != < <= > >=`
abbrev pub holds : Comparison → ℤ → ℤ → Bool
holds equal a b = equal_z a b
holds unequal a b = not (equal_z a b)
holds less a b = lt_z a b
holds at_most_as a b = le_z a b
holds greater a b = lt_z b a
holds at_least_as a b = le_z b a

module _ (env : Environment) where
  -- ---- "`+ -` from the left, then `*`, then at most one unary minus, …; exact whole numbers that may go below zero"

  abbrev pub primary_value : Primary → ℤ
  primary_value (number n) = pos n.value
  primary_value (variable x) = env x.letters

  abbrev pub operand_value : Operand → ℤ
  operand_value (plain x) = primary_value x
  operand_value (opposite s x) = neg_ℤ (primary_value x)

  -- a times the factors that follow it
  unfoldable pub times_value : ℤ → Factors → ℤ
  times_value a no_factor = a
  times_value a (times s x more) = times_value (a *ℤ operand_value x) more

  abbrev pub product_value : Product → ℤ
  product_value (product x more) = times_value (operand_value x) more

  -- "from the left": a and the summands that follow it
  unfoldable pub sum_value : ℤ → Summands → ℤ
  sum_value a no_summand = a
  sum_value a (plus s x more) = sum_value (a +ℤ product_value x) more
  sum_value a (minus s x more) = sum_value (a -ℤ product_value x) more

  abbrev pub calculation_value : Calculation → ℤ
  calculation_value (sum x more) = sum_value (product_value x) more

  -- ---- sets: v is one of "`~`, `a`, `a~b`, `a~`, `~b`"

  abbrev pub in_item : Item → ℤ → Bool
  in_item (everything s) v = true
  in_item (only a) v = equal_z (calculation_value a) v
  in_item (between a s b) v = le_z (calculation_value a) v && le_z v (calculation_value b)
  in_item (from a s) v = le_z (calculation_value a) v
  in_item (up_to_bound s b) v = le_z v (calculation_value b)

  -- of a set with `!`: of the item, and not of what stands after the `!`
  unfoldable pub in_set : {p : SetPart} {d : ℕ} → Choices p d → ℤ → Bool
  in_set (item a) v = in_item a v
  in_set (item_but_item a s b) v = in_item a v && not (in_item b v)
  in_set (item_but_set depth a s opens b closes) v = in_item a v && not (in_set b v)
  in_set (last_choice a) v = in_set a v
  in_set (or_choices a s b) v = in_set a v || in_set b v

  -- ---- "A repetition's counts are a set of whole numbers from 0"

  abbrev pub passes_in : Counts → Passes
  passes_in (exactly n) = just (calculation_value n)
  passes_in (at_least_count a s) = at_least (calculation_value a)
  passes_in (at_most s b) = from_to (pos 0) (calculation_value b)
  passes_in (span a s b) = from_to (calculation_value a) (calculation_value b)

  -- ---- conditions

  unfoldable pub is_true : {p : TestPart} {d : ℕ} → Tests p d → Bool
  is_true (compare a c s b) = holds c (calculation_value a) (calculation_value b)
  is_true (test_group depth opens a closes) = is_true a
  is_true (one_test a) = is_true a
  is_true (all_of a s b) = is_true a && is_true b
  is_true (any_of a s b) = is_true a || is_true b
  is_true (last_conjunct a) = is_true a
  is_true (and_conjuncts a s b) = is_true a && is_true b
  is_true (last_disjunct a) = is_true a
  is_true (or_disjuncts a s b) = is_true a || is_true b
