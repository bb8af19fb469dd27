-- A set or a condition of a tree none of whose calculations is too large (8) has terms that pass the size rule of `term_sizes`.
-- Assumes nothing.
use Prim.Native.Nat.{ℕ, ◌+◌, ◌*◌, ◌^◌, ◌≤◌}
use mathlib.Core.Path.{◌≡◌, refl, ap₂, subst, sym}
use mathlib.Core.Bool.{false}
use mathlib.Core.List.{List, [], ◌∷◌, ◌++◌}
use mathlib.Core.Option.{Option, none, some}
use native.Mathlib.Omega.{arith}
use borrow.Author.Tests.{ltb-false}
use lib.IntN.{ℤ, pos, nat_abs, ◌+ℤ◌, ◌*ℤ◌}
use lib.ListN.{get_or}
use Rattle.term_words.specs.declared.Kind.{Kind}
use Rattle.term_sizes.specs.Sizes.{sizes}
use Rattle.term_trees.specs.Trees.{Calculation as TermCalculation, plus as added, minus as less_by, times as multiplied, ValueSet as TermSet, Condition as TermCondition}
use Rattle.term_trees.specs.Postfix.{set_terms, condition_terms}
use Rattle.tree.specs.Tree.{Primary, number, variable, Operand, plain, opposite, Factors, no_factor, times, Product, product, Summands, no_summand, plus, minus, Calculation, sum, Item, everything, only, between, from, up_to_bound, SetPart, Choices, item, item_but_item, item_but_set, last_choice, or_choices, ValueSet, TestPart, tests, test, conjuncts, disjuncts, Tests, compare, test_group, one_test, all_of, any_of, last_conjunct, and_conjuncts, last_disjunct, or_disjuncts, Condition}
use Rattle.tree_meaning.specs.Pieces.{Term, a_number, a_use, a_sign, primary_terms, operand_terms, factor_terms, product_terms, summand_terms, terms_of_calculation, Component, whole_number, joined_by, item_parts, set_parts, tests_parts, terms_of}
use Rattle.tree_meaning.specs.Sizes.{primary_size, operand_size, times_size, product_size, sum_size, calculation_size, times_largest, product_largest, sum_largest, calculation_largest, too_large}
use Rattle.tree_meaning.proofs.Bounds.{times_part}
use Rattle.tree_meaning.proofs.Passing.{CalculationsFit}
use Rattle.tree_terms.specs.Terms.{set_after, Before, alone, and_after, or_after, test_after, BeforePart, primary_tree, operand_tree, times_tree, product_tree, sum_tree, calculation_tree, item_tree, set_tree, tests_tree}
use Rattle.tree_terms.proofs.Small.{size_of, Small, SmallSet, SmallCondition, set_small, condition_small}
use Rattle.std.specs.Prelude.{Err}
use Rattle.term_sizes.specs.declared.SizeError.{SizeError}

module _ (numbered widest : List ℕ → ℕ) (w : List ℤ) where
  -- the variables that are used among these terms have their sizes in the list
  unfoldable pub AsWide : List Term → Type 0
  AsWide [] = Unit {0}
  AsWide (a_number n ∷ more) = AsWide more
  AsWide (a_use x ∷ more) = (get_or w (numbered x.letters) (pos 0) ≡ pos (widest x.letters)) × AsWide more
  AsWide (a_sign s ∷ more) = AsWide more

  wide_first : (xs ys : List Term) → AsWide (xs ++ ys) → AsWide xs
  unfolding AsWide
  wide_first [] ys h = tt
  wide_first (a_number n ∷ more) ys h = wide_first more ys h
  wide_first (a_use x ∷ more) ys h = (h.0, wide_first more ys h.1)
  wide_first (a_sign s ∷ more) ys h = wide_first more ys h

  wide_second : (xs ys : List Term) → AsWide (xs ++ ys) → AsWide ys
  unfolding AsWide
  wide_second [] ys h = h
  wide_second (a_number n ∷ more) ys h = wide_second more ys h
  wide_second (a_use x ∷ more) ys h = wide_second more ys h.1
  wide_second (a_sign s ∷ more) ys h = wide_second more ys h

  -- a calculation of this size, no part of which passes 2^62
  pub record Sizes (c : TermCalculation) (n : ℕ) : Type 0 where
    pub size : size_of w c ≡ pos n
    pub small : Small w c

  below : (z : ℤ) (n : ℕ) → z ≡ pos n → n ≤ 2 ^ 62 → nat_abs z ≤ 2 ^ 62
  below z n e h = subst (λ (x : ℤ). nat_abs x ≤ 2 ^ 62) (sym e) h

  primary_sizes : (x : Primary) → AsWide (primary_terms x) → primary_size widest x ≤ 2 ^ 62 → Sizes (primary_tree numbered x) (primary_size widest x)
  unfolding AsWide size_of Small
  primary_sizes (number n) h l = record { size = refl; small = l }
  primary_sizes (variable x) h l = record { size = h.0; small = below (get_or w (numbered x.letters) (pos 0)) (widest x.letters) h.0 l }

  operand_sizes : (x : Operand) → AsWide (operand_terms x) → operand_size widest x ≤ 2 ^ 62 → Sizes (operand_tree numbered x) (operand_size widest x)
  unfolding AsWide size_of Small
  operand_sizes (plain x) h l = primary_sizes x h l
  operand_sizes (opposite s x) h l = let p = primary_sizes x h l in record { size = p.size; small = (p.small, below (size_of w (primary_tree numbered x)) (primary_size widest x) p.size l) }

  product_of : (a b : TermCalculation) (m n : ℕ) → Sizes a m → Sizes b n → m * n ≤ 2 ^ 62 → Sizes (multiplied a b) (m * n)
  unfolding size_of Small
  product_of a b m n p q l =
      let e : size_of w a *ℤ size_of w b ≡ pos (m * n) = ap₂ ◌*ℤ◌ p.size q.size in record { size = e; small = (p.small, q.small, below (size_of w a *ℤ size_of w b) (m * n) e l) }

  sum_of : (a b : TermCalculation) (m n : ℕ) → Sizes a m → Sizes b n → m + n ≤ 2 ^ 62 → Sizes (added a b) (m + n)
  unfolding size_of Small
  sum_of a b m n p q l =
      let e : size_of w a +ℤ size_of w b ≡ pos (m + n) = ap₂ ◌+ℤ◌ p.size q.size in record { size = e; small = (p.small, q.small, below (size_of w a +ℤ size_of w b) (m + n) e l) }

  difference_of : (a b : TermCalculation) (m n : ℕ) → Sizes a m → Sizes b n → m + n ≤ 2 ^ 62 → Sizes (less_by a b) (m + n)
  unfolding size_of Small
  difference_of a b m n p q l =
      let e : size_of w a +ℤ size_of w b ≡ pos (m + n) = ap₂ ◌+ℤ◌ p.size q.size in record { size = e; small = (p.small, q.small, below (size_of w a +ℤ size_of w b) (m + n) e l) }

  times_sizes : (a : TermCalculation) (n : ℕ) (more : Factors) → Sizes a n → AsWide (factor_terms more) → times_largest widest n more ≤ 2 ^ 62 → Sizes (times_tree numbered a more) (times_size widest n more)
  unfolding AsWide factor_terms times_tree times_size times_largest
  times_sizes a n no_factor p h l = p
  times_sizes a n (times s x more) p h l =
      let q = times_part widest (n * operand_size widest x) more in
      let o = operand_sizes x (wide_first (operand_terms x) (factor_terms more) h) (omega (arith, l)) in
      times_sizes (multiplied a (operand_tree numbered x)) (n * operand_size widest x) more (product_of a (operand_tree numbered x) n (operand_size widest x) p o (omega (arith, l, q))) (wide_second (operand_terms x) (factor_terms more) h) (omega (arith, l))

  product_sizes : (x : Product) → AsWide (product_terms x) → product_largest widest x ≤ 2 ^ 62 → Sizes (product_tree numbered x) (product_size widest x)
  product_sizes (product x more) h l =
      let q = times_part widest (operand_size widest x) more in
      times_sizes (operand_tree numbered x) (operand_size widest x) more (operand_sizes x (wide_first (operand_terms x) (factor_terms more) h) (omega (arith, l, q))) (wide_second (operand_terms x) (factor_terms more) h) l

  sum_part : (n : ℕ) (more : Summands) → n ≤ sum_largest widest n more
  unfolding sum_largest
  sum_part n no_summand = omega arith
  sum_part n (plus s x more) = omega arith
  sum_part n (minus s x more) = omega arith

  sum_sizes : (a : TermCalculation) (n : ℕ) (more : Summands) → Sizes a n → AsWide (summand_terms more) → sum_largest widest n more ≤ 2 ^ 62 → Sizes (sum_tree numbered a more) (sum_size widest n more)
  unfolding AsWide summand_terms sum_tree sum_size sum_largest
  sum_sizes a n no_summand p h l = p
  sum_sizes a n (plus s x more) p h l =
      let q = sum_part (n + product_size widest x) more in
      let o = product_sizes x (wide_first (product_terms x) (summand_terms more) h) (omega (arith, l)) in
      sum_sizes (added a (product_tree numbered x)) (n + product_size widest x) more (sum_of a (product_tree numbered x) n (product_size widest x) p o (omega (arith, l, q))) (wide_second (product_terms x) (summand_terms more) h) (omega (arith, l))
  sum_sizes a n (minus s x more) p h l =
      let q = sum_part (n + product_size widest x) more in
      let o = product_sizes x (wide_first (product_terms x) (summand_terms more) h) (omega (arith, l)) in
      sum_sizes (less_by a (product_tree numbered x)) (n + product_size widest x) more (difference_of a (product_tree numbered x) n (product_size widest x) p o (omega (arith, l, q))) (wide_second (product_terms x) (summand_terms more) h) (omega (arith, l))

  -- a calculation that is not too large
  pub calculation_sizes : (c : Calculation) → AsWide (terms_of_calculation c) → too_large widest c ≡ false → Sizes (calculation_tree numbered c) (calculation_size widest c)
  calculation_sizes (sum x more) h e =
      let l = ltb-false (2 ^ 62) (calculation_largest widest (sum x more)) e in
      sum_sizes (product_tree numbered x) (product_size widest x) more (product_sizes x (wide_first (product_terms x) (summand_terms more) h) (omega (arith, l))) (wide_second (product_terms x) (summand_terms more) h) (omega (arith, l))

  small_calculation : (c : Calculation) → AsWide (terms_of_calculation c) → too_large widest c ≡ false → Small w (calculation_tree numbered c)
  small_calculation c h e = (calculation_sizes c h e).small

  -- ---- sets and conditions

  -- every calculation among these parts is small
  unfoldable Fine : List Component → Type 0
  Fine [] = Unit {0}
  Fine (whole_number c ∷ more) = Small w (calculation_tree numbered c) × Fine more
  Fine (joined_by s ∷ more) = Fine more

  all_fine : (f : List Component) → AsWide (terms_of f) → CalculationsFit widest f → Fine f
  unfolding Fine terms_of AsWide CalculationsFit
  all_fine [] h k = tt
  all_fine (whole_number c ∷ more) h k =
      (small_calculation c (wide_first (terms_of_calculation c) (terms_of more) h) k.0, all_fine more (wide_second (terms_of_calculation c) (terms_of more) h) k.1)
  all_fine (joined_by s ∷ more) h k = all_fine more h k

  fine_first : (f g : List Component) → Fine (f ++ g) → Fine f
  unfolding Fine
  fine_first [] g h = tt
  fine_first (whole_number c ∷ more) g h = (h.0, fine_first more g h.1)
  fine_first (joined_by s ∷ more) g h = fine_first more g h

  fine_second : (f g : List Component) → Fine (f ++ g) → Fine g
  unfolding Fine
  fine_second [] g h = h
  fine_second (whole_number c ∷ more) g h = fine_second more g h.1
  fine_second (joined_by s ∷ more) g h = fine_second more g h

  item_small : (x : Item) → Fine (item_parts x) → SmallSet w (item_tree numbered x)
  unfolding Fine SmallSet
  item_small (everything s) h = tt
  item_small (only a) h = h.0
  item_small (between a s b) h = (h.0, h.1.0)
  item_small (from a s) h = h.0
  item_small (up_to_bound s b) h = h.0

  -- the set that stands before is small
  abbrev SmallBefore : Option TermSet → Type 0
  SmallBefore none = Unit {0}
  SmallBefore (some y) = SmallSet w y

  after_small : (o : Option TermSet) (x : TermSet) → SmallBefore o → SmallSet w x → SmallSet w (set_after o x)
  unfolding SmallSet
  after_small none x p q = q
  after_small (some y) x p q = (p, q)

  set_fine : {p : SetPart} {d : ℕ} (o : Option TermSet) (x : Choices p d) → SmallBefore o → Fine (set_parts x) → SmallSet w (set_tree numbered o x)
  unfolding Fine SmallSet set_tree set_parts
  set_fine o (item a) b h = after_small o (item_tree numbered a) b (item_small a h)
  set_fine o (item_but_item a s c) b h =
      after_small o _ b (item_small a (fine_first (item_parts a) (joined_by s ∷ item_parts c) h), item_small c (fine_second (item_parts a) (joined_by s ∷ item_parts c) h))
  set_fine o (item_but_set depth a s opens c closes) b h =
      after_small o _ b (item_small a (fine_first (item_parts a) (joined_by s ∷ set_parts c) h), set_fine none c tt (fine_second (item_parts a) (joined_by s ∷ set_parts c) h))
  set_fine o (last_choice a) b h = set_fine o a b h
  set_fine o (or_choices a s c) b h =
      set_fine (some (set_tree numbered o a)) c (set_fine o a b (fine_first (set_parts a) (joined_by s ∷ set_parts c) h)) (fine_second (set_parts a) (joined_by s ∷ set_parts c) h)

  abbrev SmallTest : Before → Type 0
  SmallTest alone = Unit {0}
  SmallTest (and_after y) = SmallCondition w y
  SmallTest (or_after y) = SmallCondition w y

  abbrev SmallPart : (p : TestPart) → BeforePart p → Type 0
  SmallPart tests o = Unit {0}
  SmallPart test o = SmallTest o
  SmallPart conjuncts o = SmallCondition w o
  SmallPart disjuncts o = SmallCondition w o

  test_small : (o : Before) (x : TermCondition) → SmallTest o → SmallCondition w x → SmallCondition w (test_after o x)
  unfolding SmallCondition
  test_small alone x p q = q
  test_small (and_after y) x p q = (p, q)
  test_small (or_after y) x p q = (p, q)

  tests_fine : {p : TestPart} {d : ℕ} (o : BeforePart p) (x : Tests p d) → SmallPart p o → Fine (tests_parts x) → SmallCondition w (tests_tree numbered o x)
  unfolding Fine SmallCondition tests_tree tests_parts
  tests_fine o (compare a c s e) b h = test_small o _ b (h.0, h.1.0)
  tests_fine o (test_group depth opens a closes) b h = test_small o (tests_tree numbered tt a) b (tests_fine tt a tt h)
  tests_fine o (one_test a) b h = tests_fine alone a tt h
  tests_fine o (all_of a s e) b h =
      tests_fine (tests_tree numbered alone a) e (tests_fine alone a tt (fine_first (tests_parts a) (joined_by s ∷ tests_parts e) h)) (fine_second (tests_parts a) (joined_by s ∷ tests_parts e) h)
  tests_fine o (any_of a s e) b h =
      tests_fine (tests_tree numbered alone a) e (tests_fine alone a tt (fine_first (tests_parts a) (joined_by s ∷ tests_parts e) h)) (fine_second (tests_parts a) (joined_by s ∷ tests_parts e) h)
  tests_fine o (last_conjunct a) b h = tests_fine (and_after o) a b h
  tests_fine o (and_conjuncts a s e) b h =
      tests_fine (tests_tree numbered (and_after o) a) e (tests_fine (and_after o) a b (fine_first (tests_parts a) (joined_by s ∷ tests_parts e) h)) (fine_second (tests_parts a) (joined_by s ∷ tests_parts e) h)
  tests_fine o (last_disjunct a) b h = tests_fine (or_after o) a b h
  tests_fine o (or_disjuncts a s e) b h =
      tests_fine (tests_tree numbered (or_after o) a) e (tests_fine (or_after o) a b (fine_first (tests_parts a) (joined_by s ∷ tests_parts e) h)) (fine_second (tests_parts a) (joined_by s ∷ tests_parts e) h)

  -- ---- so the size rule passes them

  pub set_fits : {d : ℕ} (x : ValueSet d) → AsWide (terms_of (set_parts x)) → CalculationsFit widest (set_parts x) → (i at : ℕ) → sizes Kind.Set w i (set_terms (set_tree numbered none x)) ≡ Err (SizeError.Exceeds at) → ⊥
  set_fits x h k i at e = set_small w i (set_tree numbered none x) (set_fine none x tt (all_fine (set_parts x) h k)) at e

  pub condition_fits : {d : ℕ} (x : Condition d) → AsWide (terms_of (tests_parts x)) → CalculationsFit widest (tests_parts x) → (i at : ℕ) → sizes Kind.Condition w i (condition_terms (tests_tree numbered tt x)) ≡ Err (SizeError.Exceeds at) → ⊥
  condition_fits x h k i at e = condition_small w i (tests_tree numbered tt x) (tests_fine tt x tt (all_fine (tests_parts x) h k)) at e
