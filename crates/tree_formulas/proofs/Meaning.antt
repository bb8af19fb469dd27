-- What a held formula means is what the tree's formula means, where each name's variable has the value that the tree gives the name.
-- Assumes nothing.
use Prim.Native.Nat.{ℕ}
use mathlib.Core.Path.{◌≡◌, refl, sym, ap, ap₂, subst, ◌∙◌}
use mathlib.Core.Logic.{⊎_elim}
use mathlib.Core.Bool.{Bool, true, false, cond, not, ◌&&◌, ◌||◌}
use mathlib.Core.List.{List, [], ◌∷◌, ◌++◌}
use lib.Dec.{ltb, leb}
use lib.IntN.{ℤ, pos, negsuc, neg_ℤ, ◌+ℤ◌, ◌-ℤ◌, ◌*ℤ◌}
use lib.ListN.{get_or}
use lib.Signed.{le_z, lt_z}
use borrow.Author.Tests.{leb-true, leb-false, lt-ltb, le-ltb}
use Rattle.basis.specs.Counts.{exactly as just, at_least, span as from_to}
use Rattle.basis.proofs.Booleans.{which}
use Rattle.text_tokens.specs.Numbers.{capped}
use Rattle.term_words.specs.Numbers.{equals}
use Rattle.term_words.specs.Steps.{compares}
use Rattle.term_trees.specs.Trees.{Calculation as Held, plus as added, minus as less_by, times as multiplied, value, ValueSet as HeldSet, has, either, Condition as HeldCondition, true_at, both as all_hold, any as one-Holds, repeats}
use Rattle.text_shapes.specs.TermShapes.{renamed, renamed_set, renamed_condition, renamed_repeats}
use Rattle.tree.specs.Lexemes.{Sign}
use Rattle.tree.specs.Tree.{Primary, number, variable, Operand, plain, opposite, Factors, no_factor, times, Product, product, Summands, no_summand, plus, minus, Calculation, sum, Item, everything, only, between, from, up_to_bound, SetPart, Choices, item, item_but_item, item_but_set, last_choice, or_choices, Counts, exactly, at_least_count, at_most, span, Comparison, equal, unequal, less, at_most_as, greater, at_least_as, TestPart, tests, test, conjuncts, disjuncts, Tests, compare, test_group, one_test, all_of, any_of, last_conjunct, and_conjuncts, last_disjunct, or_disjuncts}
use Rattle.tree_meaning.specs.Pieces.{Term, a_number, a_use, a_sign, primary_terms, operand_terms, factor_terms, product_terms, summand_terms, terms_of_calculation, Component, joined_by, item_parts, set_parts, counts_parts, tests_parts, terms_of}
use Rattle.tree_meaning.specs.Values.{Environment, primary_value, operand_value, times_value, product_value, sum_value, calculation_value, in_item, in_set, passes_in, holds, is_true}
use Rattle.tree_store.proofs.Uses.{terms_append}
use Rattle.tree_formulas.proofs.Folding.{held_primary, held_operand, held_factors, held_product, held_summands, held_calculation, held_item, held_set, held_counts, held_sign, held_tests}

-- ---- tests

pick_and : (a b : Bool) → cond a b false ≡ (a && b)
pick_and true b = refl
pick_and false b = refl

pick_not : (a b : Bool) → cond b false a ≡ (a && not b)
pick_not true true = refl
pick_not true false = refl
pick_not false true = refl
pick_not false false = refl

pick_or : (a b : Bool) → cond a true b ≡ (a || b)
pick_or true b = refl
pick_or false b = refl

not_le : (a b : ℕ) → not (leb b a) ≡ ltb a b
not_le a b =
    ⊎_elim (λ (z : leb b a ≡ true). ap not z ∙ sym (le-ltb a b (leb-true b a z))) (λ (z : leb b a ≡ false). ap not z ∙ sym (lt-ltb a b (leb-false b a z))) (which (leb b a))

not_le_z : (a b : ℤ) → not (le_z b a) ≡ lt_z a b
not_le_z (pos a) (pos b) = not_le a b
not_le_z (pos a) (negsuc b) = refl
not_le_z (negsuc a) (pos b) = refl
not_le_z (negsuc a) (negsuc b) = not_le b a

and_assoc : (a b c : Bool) → ((a && b) && c) ≡ (a && (b && c))
and_assoc true b c = refl
and_assoc false b c = refl

or_assoc : (a b c : Bool) → ((a || b) || c) ≡ (a || (b || c))
or_assoc true b c = refl
or_assoc false b c = refl

module _ (g : ℕ → ℕ) (v : List ℤ) (env : Environment) where
  -- a number is not capped, and a name's variable has its value
  abbrev pub Fits : Term → Type 0
  Fits (a_number n) = capped n.value ≡ n.value
  Fits (a_use x) = get_or v (g x.start) (pos 0) ≡ env x.letters
  Fits (a_sign s) = Unit {0}

  pub data AllFit : List Term → Type 0 where
    none_fit : AllFit []
    next_fit : {t : Term} {l : List Term} → Fits t → AllFit l → AllFit (t ∷ l)

  fit_left : (l m : List Term) → AllFit (l ++ m) → AllFit l
  fit_left [] m h = none_fit
  fit_left (t ∷ l) m (next_fit f h) = next_fit f (fit_left l m h)

  fit_right : (l m : List Term) → AllFit (l ++ m) → AllFit m
  fit_right [] m h = h
  fit_right (t ∷ l) m (next_fit f h) = fit_right l m h

  fit_tail : {t : Term} {l : List Term} → AllFit (t ∷ l) → AllFit l
  fit_tail (next_fit f h) = h

  -- ---- calculations

  primary_means : (x : Primary) → AllFit (primary_terms x) → value v (renamed g (held_primary x)) ≡ primary_value env x
  unfolding value renamed
  primary_means (number n) (next_fit f h) = ap pos f
  primary_means (variable x) (next_fit f h) = f

  operand_means : (x : Operand) → AllFit (operand_terms x) → value v (renamed g (held_operand x)) ≡ operand_value env x
  unfolding value renamed
  operand_means (plain x) h = primary_means x h
  operand_means (opposite s x) (next_fit f h) = ap neg_ℤ (primary_means x h)

  factors_mean : (c : Held) (a : ℤ) (x : Factors) → value v (renamed g c) ≡ a → AllFit (factor_terms x) → value v (renamed g (held_factors c x)) ≡ times_value env a x
  unfolding value renamed held_factors times_value factor_terms
  factors_mean c a no_factor e h = e
  factors_mean c a (times s x more) e (next_fit f h) =
      factors_mean (multiplied c (held_operand x)) (a *ℤ operand_value env x) more (ap₂ ◌*ℤ◌ e (operand_means x (fit_left (operand_terms x) (factor_terms more) h))) (fit_right (operand_terms x) (factor_terms more) h)

  product_means : (x : Product) → AllFit (product_terms x) → value v (renamed g (held_product x)) ≡ product_value env x
  product_means (product x more) h =
      factors_mean (held_operand x) (operand_value env x) more (operand_means x (fit_left (operand_terms x) (factor_terms more) h)) (fit_right (operand_terms x) (factor_terms more) h)

  summands_mean : (c : Held) (a : ℤ) (x : Summands) → value v (renamed g c) ≡ a → AllFit (summand_terms x) → value v (renamed g (held_summands c x)) ≡ sum_value env a x
  unfolding value renamed held_summands sum_value summand_terms
  summands_mean c a no_summand e h = e
  summands_mean c a (plus s x more) e (next_fit f h) =
      summands_mean (added c (held_product x)) (a +ℤ product_value env x) more (ap₂ ◌+ℤ◌ e (product_means x (fit_left (product_terms x) (summand_terms more) h))) (fit_right (product_terms x) (summand_terms more) h)
  summands_mean c a (minus s x more) e (next_fit f h) =
      summands_mean (less_by c (held_product x)) (a -ℤ product_value env x) more (ap₂ ◌-ℤ◌ e (product_means x (fit_left (product_terms x) (summand_terms more) h))) (fit_right (product_terms x) (summand_terms more) h)

  pub calculation_means : (x : Calculation) → AllFit (terms_of_calculation x) → value v (renamed g (held_calculation x)) ≡ calculation_value env x
  calculation_means (sum x more) h =
      summands_mean (held_product x) (product_value env x) more (product_means x (fit_left (product_terms x) (summand_terms more) h)) (fit_right (product_terms x) (summand_terms more) h)

  -- ---- counts

  pub counts_mean : (x : Counts) → AllFit (terms_of (counts_parts x)) → repeats v (renamed_repeats g (held_counts x)) ≡ passes_in env x
  unfolding repeats renamed_repeats terms_of
  counts_mean (exactly n) h = ap just (calculation_means n (fit_left (terms_of_calculation n) [] h))
  counts_mean (at_least_count a s) h = ap at_least (calculation_means a (fit_left (terms_of_calculation a) (a_sign s ∷ []) h))
  counts_mean (at_most s b) (next_fit f h) = ap (from_to (pos 0)) (calculation_means b (fit_left (terms_of_calculation b) [] h))
  counts_mean (span a s b) h =
      ap₂ from_to (calculation_means a (fit_left (terms_of_calculation a) (a_sign s ∷ (terms_of_calculation b ++ [])) h))
      (calculation_means b (fit_left (terms_of_calculation b) [] (fit_tail (fit_right (terms_of_calculation a) (a_sign s ∷ (terms_of_calculation b ++ [])) h))))

  -- ---- sets

  item_means : (x : Item) (n : ℤ) → AllFit (terms_of (item_parts x)) → has v (renamed_set g (held_item x)) n ≡ in_item env x n
  unfolding has renamed_set terms_of equals
  item_means (everything s) n h = refl
  item_means (only a) n h =
      ap (λ (k : ℤ). equals k n) (calculation_means a (fit_left (terms_of_calculation a) [] h)) ∙ pick_and (le_z (calculation_value env a) n) (le_z n (calculation_value env a))
  item_means (between a s b) n h =
      ap₂ (λ (k m : ℤ). cond (le_z k n) (le_z n m) false) (calculation_means a (fit_left (terms_of_calculation a) (a_sign s ∷ (terms_of_calculation b ++ [])) h))
      (calculation_means b (fit_left (terms_of_calculation b) [] (fit_tail (fit_right (terms_of_calculation a) (a_sign s ∷ (terms_of_calculation b ++ [])) h))))
      ∙ pick_and (le_z (calculation_value env a) n) (le_z n (calculation_value env b))
  item_means (from a s) n h = ap (λ (k : ℤ). le_z k n) (calculation_means a (fit_left (terms_of_calculation a) (a_sign s ∷ []) h))
  item_means (up_to_bound s b) n (next_fit f h) = ap (λ (k : ℤ). le_z n k) (calculation_means b (fit_left (terms_of_calculation b) [] h))

  -- of two parts and a sign between them
  parts_left : (l m : List Component) (s : Sign) → AllFit (terms_of (l ++ joined_by s ∷ m)) → AllFit (terms_of l)
  parts_left l m s h = fit_left (terms_of l) (terms_of (joined_by s ∷ m)) (subst AllFit (terms_append l (joined_by s ∷ m)) h)

  parts_right : (l m : List Component) (s : Sign) → AllFit (terms_of (l ++ joined_by s ∷ m)) → AllFit (terms_of m)
  unfolding terms_of
  parts_right l m s h = fit_tail (fit_right (terms_of l) (terms_of (joined_by s ∷ m)) (subst AllFit (terms_append l (joined_by s ∷ m)) h))

  -- where `acc` joins the first alternative to those before, in which n is or is not
  set_from : {p : SetPart} {d : ℕ} (x : Choices p d) (acc : HeldSet → HeldSet) (earlier : Bool) (n : ℤ) → AllFit (terms_of (set_parts x))
      → ((y : HeldSet) → has v (renamed_set g (acc y)) n ≡ (earlier || has v (renamed_set g y) n)) → has v (renamed_set g (held_set x acc)) n ≡ (earlier || in_set env x n)
  unfolding has renamed_set held_set in_set set_parts
  set_from (item a) acc p n h f = f (held_item a) ∙ ap (λ (b : Bool). p || b) (item_means a n h)
  set_from (item_but_item a s b) acc p n h f =
      f _
      ∙ ap (λ (c : Bool). p || c)
      (ap₂ (λ (c d : Bool). cond d false c) (item_means a n (parts_left (item_parts a) (item_parts b) s h)) (item_means b n (parts_right (item_parts a) (item_parts b) s h)) ∙ pick_not (in_item env a n) (in_item env b n))
  set_from (item_but_set depth a s opens b closes) acc p n h f =
      f _
      ∙ ap (λ (c : Bool). p || c)
      (ap₂ (λ (c d : Bool). cond d false c) (item_means a n (parts_left (item_parts a) (set_parts b) s h)) (set_from b (λ y. y) false n (parts_right (item_parts a) (set_parts b) s h) (λ y. refl)) ∙ pick_not (in_item env a n) (in_set env b n))
  set_from (last_choice a) acc p n h f = set_from a acc p n h f
  set_from (or_choices a s b) acc p n h f =
      set_from b (λ y. either (held_set a acc) y) (p || in_set env a n) n (parts_right (set_parts a) (set_parts b) s h)
      (λ y. ap (λ (c : Bool). cond c true (has v (renamed_set g y) n)) (set_from a acc p n (parts_left (set_parts a) (set_parts b) s h) f) ∙ pick_or (p || in_set env a n) (has v (renamed_set g y) n))
      ∙ or_assoc p (in_set env a n) (in_set env b n)

  -- a number is in the held set exactly where it is in the tree's
  pub set_means : {p : SetPart} {d : ℕ} (x : Choices p d) (n : ℤ) → AllFit (terms_of (set_parts x)) → has v (renamed_set g (held_set x (λ y. y))) n ≡ in_set env x n
  set_means x n h = set_from x (λ y. y) false n h (λ y. refl)

  -- ---- conditions

  -- what joins the first test to those before; a whole condition has none before
  abbrev Joins : TestPart → (Bool → Bool) → Type 0
  Joins tests j = (b : Bool) → j b ≡ b
  Joins test j = Unit {0}
  Joins conjuncts j = (b c : Bool) → (j b && c) ≡ j (b && c)
  Joins disjuncts j = (b c : Bool) → (j b || c) ≡ j (b || c)

  compare_means : (c : Comparison) (a b : ℤ) → compares (held_sign c) a b ≡ holds c a b
  unfolding equals
  compare_means equal a b = pick_and (le_z a b) (le_z b a)
  compare_means unequal a b = ap not (pick_and (le_z a b) (le_z b a))
  compare_means less a b = not_le_z a b
  compare_means at_most_as a b = refl
  compare_means greater a b = not_le_z b a
  compare_means at_least_as a b = refl

  tests_from : {p : TestPart} {d : ℕ} (x : Tests p d) (acc : HeldCondition → HeldCondition) (j : Bool → Bool) → Joins p j → AllFit (terms_of (tests_parts x))
      → ((y : HeldCondition) → true_at v (renamed_condition g (acc y)) ≡ j (true_at v (renamed_condition g y))) → true_at v (renamed_condition g (held_tests x acc)) ≡ j (is_true env x)
  unfolding true_at renamed_condition held_tests is_true tests_parts terms_of
  tests_from (compare a c s b) acc j k h f =
      f _
      ∙ ap j
      (ap₂ (compares (held_sign c)) (calculation_means a (fit_left (terms_of_calculation a) (a_sign s ∷ (terms_of_calculation b ++ [])) h))
      (calculation_means b (fit_left (terms_of_calculation b) [] (fit_tail (fit_right (terms_of_calculation a) (a_sign s ∷ (terms_of_calculation b ++ [])) h))))
      ∙ compare_means c (calculation_value env a) (calculation_value env b))
  tests_from (test_group depth opens a closes) acc j k h f = f _ ∙ ap j (tests_from a (λ y. y) (λ b. b) (λ b. refl) h (λ y. refl))
  tests_from (one_test a) acc j k h f = tests_from a acc j tt h f
  tests_from (last_conjunct a) acc j k h f = tests_from a acc j tt h f
  tests_from (last_disjunct a) acc j k h f = tests_from a acc j tt h f
  tests_from (all_of a s b) acc j k h f =
      tests_from b (λ y. all_hold (held_tests a acc) y) (λ c. j (is_true env a) && c) (λ c d. and_assoc (j (is_true env a)) c d) (parts_right (tests_parts a) (tests_parts b) s h)
      (λ y. ap (λ (c : Bool). cond c (true_at v (renamed_condition g y)) false) (tests_from a acc j tt (parts_left (tests_parts a) (tests_parts b) s h) f) ∙ pick_and (j (is_true env a)) (true_at v (renamed_condition g y)))
      ∙ (ap (λ (c : Bool). c && is_true env b) (k (is_true env a)) ∙ sym (k (is_true env a && is_true env b)))
  tests_from (and_conjuncts a s b) acc j k h f =
      tests_from b (λ y. all_hold (held_tests a acc) y) (λ c. j (is_true env a) && c) (λ c d. and_assoc (j (is_true env a)) c d) (parts_right (tests_parts a) (tests_parts b) s h)
      (λ y. ap (λ (c : Bool). cond c (true_at v (renamed_condition g y)) false) (tests_from a acc j tt (parts_left (tests_parts a) (tests_parts b) s h) f) ∙ pick_and (j (is_true env a)) (true_at v (renamed_condition g y)))
      ∙ k (is_true env a) (is_true env b)
  tests_from (any_of a s b) acc j k h f =
      tests_from b (λ y. one-Holds (held_tests a acc) y) (λ c. j (is_true env a) || c) (λ c d. or_assoc (j (is_true env a)) c d) (parts_right (tests_parts a) (tests_parts b) s h)
      (λ y. ap (λ (c : Bool). cond c true (true_at v (renamed_condition g y))) (tests_from a acc j tt (parts_left (tests_parts a) (tests_parts b) s h) f) ∙ pick_or (j (is_true env a)) (true_at v (renamed_condition g y)))
      ∙ (ap (λ (c : Bool). c || is_true env b) (k (is_true env a)) ∙ sym (k (is_true env a || is_true env b)))
  tests_from (or_disjuncts a s b) acc j k h f =
      tests_from b (λ y. one-Holds (held_tests a acc) y) (λ c. j (is_true env a) || c) (λ c d. or_assoc (j (is_true env a)) c d) (parts_right (tests_parts a) (tests_parts b) s h)
      (λ y. ap (λ (c : Bool). cond c true (true_at v (renamed_condition g y))) (tests_from a acc j tt (parts_left (tests_parts a) (tests_parts b) s h) f) ∙ pick_or (j (is_true env a)) (true_at v (renamed_condition g y)))
      ∙ k (is_true env a) (is_true env b)

  -- the held condition holds exactly where the tree's does
  pub tests_mean : {d : ℕ} (x : Tests tests d) → AllFit (terms_of (tests_parts x)) → true_at v (renamed_condition g (held_tests x (λ y. y))) ≡ is_true env x
  tests_mean x h = tests_from x (λ y. y) (λ b. b) (λ b. refl) h (λ y. refl)
