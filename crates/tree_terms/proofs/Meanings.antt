-- Sets, counts and conditions mean the same as the trees that their terms hold, at the values of the variables.
-- Assumes nothing.
use Prim.Native.Nat.{ℕ}
use mathlib.Core.Path.{◌≡◌, refl, sym, ap, ap₂, ◌∙◌}
use mathlib.Core.Logic.{⊎_elim}
use mathlib.Core.Bool.{Bool, true, false, cond, not, ◌&&◌, ◌||◌}
use mathlib.Core.List.{List}
use mathlib.Core.Option.{Option, none, some}
use borrow.Author.Tests.{le-leb, lt-leb, ltb-true, ltb-false}
use lib.Dec.{leb, ltb}
use lib.IntN.{ℤ, pos, negsuc, neg_ℤ, ◌+ℤ◌, ◌-ℤ◌, ◌*ℤ◌}
use lib.Signed.{le_z, lt_z}
use Rattle.basis.specs.Counts.{exactly as just, at_least, span as from_to}
use Rattle.basis.proofs.Booleans.{which}
use Rattle.term_words.specs.Numbers.{equals}
use Rattle.term_words.specs.Steps.{compares}
use Rattle.term_trees.specs.Trees.{Calculation as TermCalculation, value, ValueSet as TermSet, has, without, Condition as TermCondition, compare as compared, true_at, repeats, times as multiplied, plus as added, minus as less_by}
use Rattle.tree.specs.Tree.{Primary, number, variable, Operand, plain, opposite, Factors, no_factor, times, Product, product, Summands, no_summand, plus, minus, Calculation, sum, Item, everything, only, between, from, up_to_bound, SetPart, Choices, item, item_but_item, item_but_set, last_choice, or_choices, ValueSet, Counts, exactly, at_least_count, at_most, span, Comparison, equal, unequal, less, at_most_as, greater, at_least_as, TestPart, tests, test, conjuncts, disjuncts, Tests, compare, test_group, one_test, all_of, any_of, last_conjunct, and_conjuncts, last_disjunct, or_disjuncts, Condition}
use Rattle.tree_meaning.specs.Values.{Environment, equal_z, holds, primary_value, operand_value, times_value, product_value, sum_value, calculation_value, in_item, in_set, passes_in, is_true}
use Rattle.tree_meaning.specs.Grammar.{values_at}
use Rattle.tree_terms.specs.Terms.{comparison_term, set_after, Before, alone, and_after, or_after, test_after, BeforePart, primary_tree, operand_tree, times_tree, product_tree, sum_tree, calculation_tree, item_tree, set_tree, counts_tree, tests_tree}

module _ (numbered : List ℕ → ℕ) (v : List ℤ) where
  abbrev env : Environment
  env = values_at numbered v

  -- ---- calculations

  primary_same : (x : Primary) → value v (primary_tree numbered x) ≡ primary_value env x
  unfolding value
  primary_same (number n) = refl
  primary_same (variable x) = refl

  operand_same : (x : Operand) → value v (operand_tree numbered x) ≡ operand_value env x
  unfolding value
  operand_same (plain x) = primary_same x
  operand_same (opposite s x) = ap neg_ℤ (primary_same x)

  times_same : (a : TermCalculation) (b : ℤ) (more : Factors) → value v a ≡ b → value v (times_tree numbered a more) ≡ times_value env b more
  unfolding value times_tree times_value
  times_same a b no_factor e = e
  times_same a b (times s x more) e = times_same (multiplied a (operand_tree numbered x)) (b *ℤ operand_value env x) more (ap₂ ◌*ℤ◌ e (operand_same x))

  product_same : (x : Product) → value v (product_tree numbered x) ≡ product_value env x
  product_same (product x more) = times_same (operand_tree numbered x) (operand_value env x) more (operand_same x)

  sum_same : (a : TermCalculation) (b : ℤ) (more : Summands) → value v a ≡ b → value v (sum_tree numbered a more) ≡ sum_value env b more
  unfolding value sum_tree sum_value
  sum_same a b no_summand e = e
  sum_same a b (plus s x more) e = sum_same (added a (product_tree numbered x)) (b +ℤ product_value env x) more (ap₂ ◌+ℤ◌ e (product_same x))
  sum_same a b (minus s x more) e = sum_same (less_by a (product_tree numbered x)) (b -ℤ product_value env x) more (ap₂ ◌-ℤ◌ e (product_same x))

  pub calculation_same : (c : Calculation) → value v (calculation_tree numbered c) ≡ calculation_value env c
  calculation_same (sum x more) = sum_same (product_tree numbered x) (product_value env x) more (product_same x)

-- ---- tests in other words

pick_and : (a b : Bool) → cond a b false ≡ (a && b)
pick_and true b = refl
pick_and false b = refl

pick_or : (a b : Bool) → cond a true b ≡ (a || b)
pick_or true b = refl
pick_or false b = refl

pick_but : (a b : Bool) → cond b false a ≡ (a && not b)
pick_but true true = refl
pick_but true false = refl
pick_but false true = refl
pick_but false false = refl

or_both : (a b c : Bool) → ((a || b) || c) ≡ (a || (b || c))
or_both true b c = refl
or_both false b c = refl

and_both : (a b c : Bool) → ((a && b) && c) ≡ (a && (b && c))
and_both true b c = refl
and_both false b c = refl

less_nat : (a b : ℕ) → not (leb b a) ≡ ltb a b
less_nat a b =
    ⊎_elim (λ e. ap not (lt-leb b a (ltb-true a b e)) ∙ sym e) (λ e. ap not (le-leb b a (ltb-false a b e)) ∙ sym e) (which (ltb a b))

less_same : (a b : ℤ) → not (le_z b a) ≡ lt_z a b
less_same (pos a) (pos b) = less_nat a b
less_same (pos a) (negsuc b) = refl
less_same (negsuc a) (pos b) = refl
less_same (negsuc a) (negsuc b) = less_nat b a

equal_same : (a b : ℤ) → equals a b ≡ equal_z a b
unfolding equals
equal_same a b = pick_and (le_z a b) (le_z b a)

holds_same : (c : Comparison) (a b : ℤ) → compares (comparison_term c) a b ≡ holds c a b
holds_same equal a b = equal_same a b
holds_same unequal a b = ap not (equal_same a b)
holds_same less a b = less_same a b
holds_same at_most_as a b = refl
holds_same greater a b = less_same b a
holds_same at_least_as a b = refl

-- ---- sets, counts and conditions

-- a number is in the set that stands before
abbrev in_before : List ℤ → Option TermSet → ℤ → Bool
in_before v none n = false
in_before v (some x) n = has v x n

-- the condition that stands before, and one more
abbrev true_after : List ℤ → Before → Bool → Bool
true_after v alone b = b
true_after v (and_after x) b = true_at v x && b
true_after v (or_after x) b = true_at v x || b

unfoldable true_after_part : List ℤ → (p : TestPart) → BeforePart p → Bool → Bool
true_after_part v tests o b = b
true_after_part v test o b = true_after v o b
true_after_part v conjuncts o b = true_at v o && b
true_after_part v disjuncts o b = true_at v o || b

module _ (numbered : List ℕ → ℕ) (v : List ℤ) where
  item_same : (x : Item) (n : ℤ) → has v (item_tree numbered x) n ≡ in_item (values_at numbered v) x n
  unfolding has
  item_same (everything s) n = refl
  item_same (only a) n = equal_same (value v (calculation_tree numbered a)) n ∙ ap (λ (z : ℤ). equal_z z n) (calculation_same numbered v a)
  item_same (between a s b) n =
      pick_and (le_z (value v (calculation_tree numbered a)) n) (le_z n (value v (calculation_tree numbered b)))
      ∙ ap₂ (λ (y z : ℤ). le_z y n && le_z n z) (calculation_same numbered v a) (calculation_same numbered v b)
  item_same (from a s) n = ap (λ (z : ℤ). le_z z n) (calculation_same numbered v a)
  item_same (up_to_bound s b) n = ap (λ (z : ℤ). le_z n z) (calculation_same numbered v b)

  after_same : (o : Option TermSet) (x : TermSet) (n : ℤ) → has v (set_after o x) n ≡ (in_before v o n || has v x n)
  unfolding has
  after_same none x n = refl
  after_same (some y) x n = pick_or (has v y n) (has v x n)

  but_same : (x y : TermSet) (n : ℤ) (a b : Bool) → has v x n ≡ a → has v y n ≡ b → has v (without x y) n ≡ (a && not b)
  unfolding has
  but_same x y n a b e f = pick_but (has v x n) (has v y n) ∙ ap₂ (λ (s t : Bool). s && not t) e f

  set_same : {p : SetPart} {d : ℕ} (o : Option TermSet) (x : Choices p d) (n : ℤ) → has v (set_tree numbered o x) n ≡ (in_before v o n || in_set (values_at numbered v) x n)
  unfolding set_tree in_set
  set_same o (item a) n = after_same o (item_tree numbered a) n ∙ ap (λ (t : Bool). in_before v o n || t) (item_same a n)
  set_same o (item_but_item a s b) n =
      after_same o (without (item_tree numbered a) (item_tree numbered b)) n ∙ ap (λ (t : Bool). in_before v o n || t) (but_same (item_tree numbered a) (item_tree numbered b) n _ _ (item_same a n) (item_same b n))
  set_same o (item_but_set depth a s opens b closes) n =
      after_same o (without (item_tree numbered a) (set_tree numbered none b)) n ∙ ap (λ (t : Bool). in_before v o n || t) (but_same (item_tree numbered a) (set_tree numbered none b) n _ _ (item_same a n) (set_same none b n))
  set_same o (last_choice a) n = set_same o a n
  set_same o (or_choices a s b) n =
      set_same (some (set_tree numbered o a)) b n ∙ (ap (λ (t : Bool). t || in_set (values_at numbered v) b n) (set_same o a n) ∙ or_both (in_before v o n) (in_set (values_at numbered v) a n) (in_set (values_at numbered v) b n))

  pub set_means : {d : ℕ} (x : ValueSet d) (n : ℤ) → has v (set_tree numbered none x) n ≡ in_set (values_at numbered v) x n
  set_means x n = set_same none x n

  pub counts_mean : (x : Counts) → repeats v (counts_tree numbered x) ≡ passes_in (values_at numbered v) x
  unfolding repeats
  counts_mean (exactly n) = ap just (calculation_same numbered v n)
  counts_mean (at_least_count a s) = ap at_least (calculation_same numbered v a)
  counts_mean (at_most s b) = ap (from_to (pos 0)) (calculation_same numbered v b)
  counts_mean (span a s b) = ap₂ from_to (calculation_same numbered v a) (calculation_same numbered v b)

  test_same : (o : Before) (x : TermCondition) → true_at v (test_after o x) ≡ true_after v o (true_at v x)
  unfolding true_at
  test_same alone x = refl
  test_same (and_after y) x = pick_and (true_at v y) (true_at v x)
  test_same (or_after y) x = pick_or (true_at v y) (true_at v x)

  compare_same : (a : Calculation) (c : Comparison) (b : Calculation) → true_at v (compared (comparison_term c) (calculation_tree numbered a) (calculation_tree numbered b)) ≡ holds c (calculation_value (values_at numbered v) a) (calculation_value (values_at numbered v) b)
  unfolding true_at
  compare_same a c b =
      holds_same c (value v (calculation_tree numbered a)) (value v (calculation_tree numbered b)) ∙ ap₂ (holds c) (calculation_same numbered v a) (calculation_same numbered v b)

  tests_same : {p : TestPart} {d : ℕ} (o : BeforePart p) (x : Tests p d) → true_at v (tests_tree numbered o x) ≡ true_after_part v p o (is_true (values_at numbered v) x)
  unfolding tests_tree is_true true_after_part
  tests_same o (compare a c s b) =
      test_same o (compared (comparison_term c) (calculation_tree numbered a) (calculation_tree numbered b))
      ∙ ap (true_after v o) (compare_same a c b)
  tests_same o (test_group depth opens a closes) = test_same o (tests_tree numbered tt a) ∙ ap (true_after v o) (tests_same tt a)
  tests_same o (one_test a) = tests_same alone a
  tests_same o (all_of a s b) = tests_same (tests_tree numbered alone a) b ∙ ap (λ (t : Bool). t && is_true (values_at numbered v) b) (tests_same alone a)
  tests_same o (any_of a s b) = tests_same (tests_tree numbered alone a) b ∙ ap (λ (t : Bool). t || is_true (values_at numbered v) b) (tests_same alone a)
  tests_same o (last_conjunct a) = tests_same (and_after o) a
  tests_same o (and_conjuncts a s b) =
      tests_same (tests_tree numbered (and_after o) a) b ∙ (ap (λ (t : Bool). t && is_true (values_at numbered v) b) (tests_same (and_after o) a) ∙ and_both (true_at v o) (is_true (values_at numbered v) a) (is_true (values_at numbered v) b))
  tests_same o (last_disjunct a) = tests_same (or_after o) a
  tests_same o (or_disjuncts a s b) =
      tests_same (tests_tree numbered (or_after o) a) b ∙ (ap (λ (t : Bool). t || is_true (values_at numbered v) b) (tests_same (or_after o) a) ∙ or_both (true_at v o) (is_true (values_at numbered v) a) (is_true (values_at numbered v) b))

  pub condition_means : {d : ℕ} (x : Condition d) → true_at v (tests_tree numbered tt x) ≡ is_true (values_at numbered v) x
  unfolding true_after_part
  condition_means x = tests_same tt x
