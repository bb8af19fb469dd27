-- The sets and conditions of a tree have room while their terms are worked out: parentheses go at most 16 deep.
-- Assumes nothing.
use Prim.Native.Nat.{ℕ, suc, ◌+◌, ◌*◌, ◌-◌, ◌≤◌, ◌<◌}
use mathlib.Core.List.{List, [], ◌∷◌, ◌++◌}
use mathlib.Core.Option.{Option, none, some}
use native.Mathlib.Omega.{arith}
use Rattle.term_trees.specs.Trees.{Calculation as TermCalculation, plus as added, minus as less_by, times as multiplied, ValueSet as TermSet, Condition as TermCondition}
use Rattle.term_trees.specs.Rooms.{Room, SetRoom, ConditionRoom}
use Rattle.tree.specs.Tree.{Primary, number, variable, Operand, plain, opposite, Factors, no_factor, times, Product, product, Summands, no_summand, plus, minus, Calculation, sum, Item, everything, only, between, from, up_to_bound, SetPart, Choices, item, item_but_item, item_but_set, last_choice, or_choices, ValueSet, TestPart, tests, test, conjuncts, disjuncts, Tests, compare, test_group, one_test, all_of, any_of, last_conjunct, and_conjuncts, last_disjunct, or_disjuncts, Condition}
use Rattle.tree_meaning.specs.Pieces.{Term, a_number, a_use, a_sign, primary_terms, operand_terms, factor_terms, product_terms, summand_terms, terms_of_calculation, Component, whole_number, joined_by, item_parts, set_parts, tests_parts, terms_of}
use Rattle.tree_terms.specs.Terms.{set_after, Before, alone, and_after, or_after, test_after, BeforePart, primary_tree, operand_tree, times_tree, product_tree, sum_tree, calculation_tree, item_tree, set_tree, tests_tree}

module _ (numbered : List ℕ → ℕ) (vars : ℕ) where
  -- the variables that are used among these terms are among so many
  unfoldable pub Known : List Term → Type 0
  Known [] = Unit {0}
  Known (a_number n ∷ more) = Known more
  Known (a_use x ∷ more) = (numbered x.letters < vars) × Known more
  Known (a_sign s ∷ more) = Known more

  known_first : (xs ys : List Term) → Known (xs ++ ys) → Known xs
  unfolding Known
  known_first [] ys h = tt
  known_first (a_number n ∷ more) ys h = known_first more ys h
  known_first (a_use x ∷ more) ys h = (h.0, known_first more ys h.1)
  known_first (a_sign s ∷ more) ys h = known_first more ys h

  known_second : (xs ys : List Term) → Known (xs ++ ys) → Known ys
  unfolding Known
  known_second [] ys h = h
  known_second (a_number n ∷ more) ys h = known_second more ys h
  known_second (a_use x ∷ more) ys h = known_second more ys h.1
  known_second (a_sign s ∷ more) ys h = known_second more ys h

  -- ---- calculations, with n numbers waiting

  primary_room : (x : Primary) (n : ℕ) → n < 4 → Known (primary_terms x) → Room vars (primary_tree numbered x) n
  unfolding Known
  primary_room (number k) n l h = l
  primary_room (variable x) n l h = (l, h.0)

  operand_room : (x : Operand) (n : ℕ) → n < 4 → Known (operand_terms x) → Room vars (operand_tree numbered x) n
  unfolding Known
  operand_room (plain x) n l h = primary_room x n l h
  operand_room (opposite s x) n l h = primary_room x n l h

  times_room : (a : TermCalculation) (more : Factors) (n : ℕ) → n < 3 → Room vars a n → Known (factor_terms more) → Room vars (times_tree numbered a more) n
  unfolding Known times_tree factor_terms
  times_room a no_factor n l r h = r
  times_room a (times s x more) n l r h =
      times_room (multiplied a (operand_tree numbered x)) more n l (r, operand_room x (suc n) (omega arith) (known_first (operand_terms x) (factor_terms more) h)) (known_second (operand_terms x) (factor_terms more) h)

  product_room : (x : Product) (n : ℕ) → n < 3 → Known (product_terms x) → Room vars (product_tree numbered x) n
  product_room (product x more) n l h =
      times_room (operand_tree numbered x) more n l (operand_room x n (omega arith) (known_first (operand_terms x) (factor_terms more) h)) (known_second (operand_terms x) (factor_terms more) h)

  sum_room : (a : TermCalculation) (more : Summands) (n : ℕ) → n < 2 → Room vars a n → Known (summand_terms more) → Room vars (sum_tree numbered a more) n
  unfolding Known sum_tree summand_terms
  sum_room a no_summand n l r h = r
  sum_room a (plus s x more) n l r h =
      sum_room (added a (product_tree numbered x)) more n l (r, product_room x (suc n) (omega arith) (known_first (product_terms x) (summand_terms more) h)) (known_second (product_terms x) (summand_terms more) h)
  sum_room a (minus s x more) n l r h =
      sum_room (less_by a (product_tree numbered x)) more n l (r, product_room x (suc n) (omega arith) (known_first (product_terms x) (summand_terms more) h)) (known_second (product_terms x) (summand_terms more) h)

  calculation_room : (c : Calculation) (n : ℕ) → n < 2 → Known (terms_of_calculation c) → Room vars (calculation_tree numbered c) n
  calculation_room (sum x more) n l h =
      sum_room (product_tree numbered x) more n l (product_room x n (omega arith) (known_first (product_terms x) (summand_terms more) h)) (known_second (product_terms x) (summand_terms more) h)

  -- ---- parts

  unfoldable AllKnown : List Component → Type 0
  AllKnown [] = Unit {0}
  AllKnown (whole_number c ∷ more) = Known (terms_of_calculation c) × AllKnown more
  AllKnown (joined_by s ∷ more) = AllKnown more

  all_known : (f : List Component) → Known (terms_of f) → AllKnown f
  unfolding AllKnown Known terms_of
  all_known [] h = tt
  all_known (whole_number c ∷ more) h = (known_first (terms_of_calculation c) (terms_of more) h, all_known more (known_second (terms_of_calculation c) (terms_of more) h))
  all_known (joined_by s ∷ more) h = all_known more h

  parts_first : (f g : List Component) → AllKnown (f ++ g) → AllKnown f
  unfolding AllKnown
  parts_first [] g h = tt
  parts_first (whole_number c ∷ more) g h = (h.0, parts_first more g h.1)
  parts_first (joined_by s ∷ more) g h = parts_first more g h

  parts_second : (f g : List Component) → AllKnown (f ++ g) → AllKnown g
  unfolding AllKnown
  parts_second [] g h = h
  parts_second (whole_number c ∷ more) g h = parts_second more g h.1
  parts_second (joined_by s ∷ more) g h = parts_second more g h

  -- ---- sets, with d tests waiting

  item_room : (x : Item) (d : ℕ) → d < 62 → AllKnown (item_parts x) → SetRoom vars (item_tree numbered x) d
  unfolding AllKnown
  item_room (everything s) d l h = l
  item_room (only a) d l h = (calculation_room a 0 (omega arith) h.0, l)
  item_room (between a s b) d l h = (calculation_room a 0 (omega arith) h.0, calculation_room b 1 (omega arith) h.1.0, l)
  item_room (from a s) d l h = (calculation_room a 0 (omega arith) h.0, l)
  item_room (up_to_bound s b) d l h = (calculation_room b 0 (omega arith) h.0, l)

  abbrev RoomBefore : Option TermSet → ℕ → Type 0
  RoomBefore none d = Unit {0}
  RoomBefore (some y) d = SetRoom vars y d

  after_room : (o : Option TermSet) (x : TermSet) (d : ℕ) → RoomBefore o d → SetRoom vars x d → SetRoom vars x (suc d) → SetRoom vars (set_after o x) d
  after_room none x d b p q = p
  after_room (some y) x d b p q = (b, q)

  set_rooms : {p : SetPart} {k : ℕ} (o : Option TermSet) (x : Choices p k) (d : ℕ) → d + 2 * (16 - k) ≤ 58 → RoomBefore o d → AllKnown (set_parts x) → SetRoom vars (set_tree numbered o x) d
  unfolding AllKnown set_tree set_parts
  set_rooms o (item a) d l b h = after_room o _ d b (item_room a d (omega (arith, l)) h) (item_room a (suc d) (omega (arith, l)) h)
  set_rooms o (item_but_item a s c) d l b h =
      let p = parts_first (item_parts a) (joined_by s ∷ item_parts c) h in
      let q = parts_second (item_parts a) (joined_by s ∷ item_parts c) h in
      after_room o _ d b (item_room a d (omega (arith, l)) p, item_room c (suc d) (omega (arith, l)) q) (item_room a (suc d) (omega (arith, l)) p, item_room c (suc (suc d)) (omega (arith, l)) q)
  set_rooms o (item_but_set depth a s opens c closes) d l b h =
      let p = parts_first (item_parts a) (joined_by s ∷ set_parts c) h in
      let q = parts_second (item_parts a) (joined_by s ∷ set_parts c) h in
      after_room o _ d b (item_room a d (omega (arith, l)) p, set_rooms none c (suc d) (omega (arith, l, depth)) tt q) (item_room a (suc d) (omega (arith, l)) p, set_rooms none c (suc (suc d)) (omega (arith, l, depth)) tt q)
  set_rooms o (last_choice a) d l b h = set_rooms o a d l b h
  set_rooms o (or_choices a s c) d l b h =
      set_rooms (some (set_tree numbered o a)) c d l (set_rooms o a d l b (parts_first (set_parts a) (joined_by s ∷ set_parts c) h)) (parts_second (set_parts a) (joined_by s ∷ set_parts c) h)

  pub set_room : {k : ℕ} (x : ValueSet k) → Known (terms_of (set_parts x)) → SetRoom vars (set_tree numbered none x) 0
  set_room x h = set_rooms none x 0 (omega arith) tt (all_known (set_parts x) h)

  -- ---- conditions, with d tests waiting

  abbrev RoomTest : Before → ℕ → Type 0
  RoomTest alone d = Unit {0}
  RoomTest (and_after y) d = ConditionRoom vars y d
  RoomTest (or_after y) d = ConditionRoom vars y d

  abbrev RoomPart : (p : TestPart) → BeforePart p → ℕ → Type 0
  RoomPart tests o d = Unit {0}
  RoomPart test o d = RoomTest o d
  RoomPart conjuncts o d = ConditionRoom vars o d
  RoomPart disjuncts o d = ConditionRoom vars o d

  test_room : (o : Before) (x : TermCondition) (d : ℕ) → RoomTest o d → ConditionRoom vars x d → ConditionRoom vars x (suc d) → ConditionRoom vars (test_after o x) d
  test_room alone x d b p q = p
  test_room (and_after y) x d b p q = (b, q)
  test_room (or_after y) x d b p q = (b, q)

  tests_rooms : {p : TestPart} {k : ℕ} (o : BeforePart p) (x : Tests p k) (d : ℕ) → d + (16 - k) ≤ 58 → RoomPart p o d → AllKnown (tests_parts x) → ConditionRoom vars (tests_tree numbered o x) d
  unfolding AllKnown tests_tree tests_parts
  tests_rooms o (compare a c s e) d l b h =
      let p = calculation_room a 0 (omega arith) h.0 in
      let q = calculation_room e 1 (omega arith) h.1.0 in test_room o _ d b (p, q, omega (arith, l)) (p, q, omega (arith, l))
  tests_rooms o (test_group depth opens a closes) d l b h =
      test_room o (tests_tree numbered tt a) d b (tests_rooms tt a d (omega (arith, l, depth)) tt h) (tests_rooms tt a (suc d) (omega (arith, l, depth)) tt h)
  tests_rooms o (one_test a) d l b h = tests_rooms alone a d l tt h
  tests_rooms o (all_of a s e) d l b h =
      tests_rooms (tests_tree numbered alone a) e d l (tests_rooms alone a d l tt (parts_first (tests_parts a) (joined_by s ∷ tests_parts e) h)) (parts_second (tests_parts a) (joined_by s ∷ tests_parts e) h)
  tests_rooms o (any_of a s e) d l b h =
      tests_rooms (tests_tree numbered alone a) e d l (tests_rooms alone a d l tt (parts_first (tests_parts a) (joined_by s ∷ tests_parts e) h)) (parts_second (tests_parts a) (joined_by s ∷ tests_parts e) h)
  tests_rooms o (last_conjunct a) d l b h = tests_rooms (and_after o) a d l b h
  tests_rooms o (and_conjuncts a s e) d l b h =
      tests_rooms (tests_tree numbered (and_after o) a) e d l (tests_rooms (and_after o) a d l b (parts_first (tests_parts a) (joined_by s ∷ tests_parts e) h)) (parts_second (tests_parts a) (joined_by s ∷ tests_parts e) h)
  tests_rooms o (last_disjunct a) d l b h = tests_rooms (or_after o) a d l b h
  tests_rooms o (or_disjuncts a s e) d l b h =
      tests_rooms (tests_tree numbered (or_after o) a) e d l (tests_rooms (or_after o) a d l b (parts_first (tests_parts a) (joined_by s ∷ tests_parts e) h)) (parts_second (tests_parts a) (joined_by s ∷ tests_parts e) h)

  pub condition_room : {k : ℕ} (x : Condition k) → Known (terms_of (tests_parts x)) → ConditionRoom vars (tests_tree numbered tt x) 0
  condition_room x h = tests_rooms tt x 0 (omega arith) tt (all_known (tests_parts x) h)
