-- The rows of a condition, worked out in sizes.
-- Assumes nothing.
use Prim.Native.Nat.{ℕ, suc, ◌+◌, ◌*◌, ◌-◌, ◌≤◌, ◌<◌}
use mathlib.Core.Path.{◌≡◌, refl, sym, ◌∙◌}
use mathlib.Core.Bool.{Bool}
use mathlib.Core.List.{List, [], ◌∷◌, ◌++◌}
use native.Mathlib.Omega.{arith}
use lib.IntN.{ℤ, pos}
use lib.ListN.{length}
use Rattle.term_words.specs.Tests.{noted}
use Rattle.term_words.specs.Words.{term_of}
use Rattle.term_words.specs.Steps.{step_of, compares}
use Rattle.term_words.specs.declared.Comparison.{Comparison as Compared}
use Rattle.term_words.specs.declared.Joint.{Joint}
use Rattle.term_words.specs.declared.Kind.{Kind}
use Rattle.term_words.specs.declared.Mode.{Mode}
use Rattle.term_words.specs.declared.Numbers.{Numbers}
use Rattle.tree.specs.Lexemes.{Sign}
use Rattle.tree.specs.Tree.{Calculation, Comparison, equal, unequal, less, at_most_as, greater, at_least_as, TestPart, Tests, compare, test_group, one_test, all_of, any_of, last_conjunct, and_conjuncts, last_disjunct, or_disjuncts}
use Rattle.tree_form.specs.Stored.{tag_of}
use Rattle.tree_meaning.specs.Pieces.{terms_of_calculation, Component, whole_number, joined_by, tests_parts, terms_of}
use Rattle.tree_meaning.specs.Sizes.{calculation_faults}
use Rattle.tree_store.proofs.Rows.{TermRow, a_term, calculation_rows, tests_rows}
use Rattle.tree_sizes.proofs.Runs.{row_term, ran, ran_none}
use Rattle.tree_sizes.proofs.Reckoning.{Measured, measured_first, measured_second}
use Rattle.tree_sizes.proofs.Lists.{Deep, Tested, Faulty, Passed, Judged, judged_both, judged_as, judged_quiet, judged_sign, judged_join, after_test, Left, fault_of, calculation_judged, left_two, one_room}
use Rattle.tree_sizes.proofs.SetLists.{faults_append, parts_first, parts_second, after_sign, again}

-- a comparison of two numbers notes a test
record Notes (g : ℕ → ℕ) (w : List ℤ) (r : TermRow) (x y : ℤ) (t : ℕ) : Type 0 where
  test : Bool
  is : step_of Kind.Condition Mode.Sizes w (pos 0) (row_term g r) (Numbers.Two x y) t ≡ noted Numbers.Zero t test

notes : (g : ℕ → ℕ) (w : List ℤ) (c : Comparison) (p : ℕ) (x y : ℤ) (t : ℕ) → Notes g w (a_term (tag_of c) 0 p 0) x y t
unfolding term_of
notes g w equal p x y t = record { test = compares Compared.Equal x y; is = refl }
notes g w unequal p x y t = record { test = compares Compared.Unequal x y; is = refl }
notes g w less p x y t = record { test = compares Compared.Less x y; is = refl }
notes g w at_most_as p x y t = record { test = compares Compared.AtMost x y; is = refl }
notes g w greater p x y t = record { test = compares Compared.Greater x y; is = refl }
notes g w at_least_as p x y t = record { test = compares Compared.AtLeast x y; is = refl }

module _ (g : ℕ → ℕ) (w : List ℤ) (wide : List ℕ → ℕ) where
  abbrev k : Kind
  k = Kind.Condition

  -- J joins the tests from depth suc d on to depth suc m
  abbrev Joins : ℕ → ℕ → List TermRow → Type 0
  Joins d m J = (i t : ℕ) → Deep (suc d) t → Judged (Tested (suc m)) [] i J (ran g w k i J Numbers.Zero t)

  or_joins : (m s : ℕ) → m < 62 → Joins (suc m) m (a_term 11 0 s 0 ∷ [])
  unfolding term_of
  or_joins m s l i t h = judged_join g w k Joint.Or m (a_term 11 0 s 0) (λ x y. refl) i t h l

  and_joins : (m s : ℕ) → m < 62 → Joins (suc m) m (a_term 13 0 s 0 ∷ [])
  unfolding term_of
  and_joins m s l i t h = judged_join g w k Joint.And m (a_term 13 0 s 0) (λ x y. refl) i t h l

  -- a condition alone
  pub no_joins : (d : ℕ) → Joins d d []
  no_joins d i t h = ran_none g w k (Passed (Tested (suc d)) []) (Faulty i [] []) i Numbers.Zero t (refl, (refl, h))

  -- two parts, the second with its sign
  two : (s : Sign) (f e : List Component) (A C : List TermRow) (m i t : ℕ) → Judged (Tested (suc m)) (calculation_faults wide f) i A (ran g w k i A Numbers.Zero t)
      → ((t' : ℕ) → Deep (suc m) t' → Judged (Tested (suc m)) (calculation_faults wide e) (i + length A) C (ran g w k (i + length A) C Numbers.Zero t'))
      → Judged (Tested (suc m)) (calculation_faults wide (f ++ (joined_by s ∷ e))) i (A ++ C) (ran g w k i (A ++ C) Numbers.Zero t)
  two s f e A C m i t a c =
      judged_as g w k (Tested (suc m)) (calculation_faults wide f ++ calculation_faults wide e) (calculation_faults wide (f ++ (joined_by s ∷ e))) i (A ++ C) (ran g w k i (A ++ C) Numbers.Zero t)
      (sym (faults_append wide f (joined_by s ∷ e) ∙ again g w wide s e (calculation_faults wide f)))
      (judged_both g w k (Tested (suc m)) (Tested (suc m)) (calculation_faults wide f) (calculation_faults wide e) A C i Numbers.Zero t a (after_test g w k (suc m) (Tested (suc m)) (calculation_faults wide e) (i + length A) C c))

  compare_judged : (a : Calculation) (c : Comparison) (s : Sign) (b : Calculation) → Measured g w wide (terms_of (whole_number a ∷ joined_by s ∷ whole_number b ∷ [])) → (J : List TermRow) (i t d m : ℕ) → Deep d t → d < 62 → Joins d m J
      → Judged (Tested (suc m)) (calculation_faults wide (whole_number a ∷ joined_by s ∷ whole_number b ∷ [])) i (calculation_rows a ++ (calculation_rows b ++ (a_term (tag_of c) 0 s.start 0 ∷ J)))
      (ran g w k i (calculation_rows a ++ (calculation_rows b ++ (a_term (tag_of c) 0 s.start 0 ∷ J))) Numbers.Zero t)
  unfolding Measured terms_of calculation_faults
  compare_judged a c s b h J i t d m deep l j =
      let A = calculation_rows a in
      let B = calculation_rows b in
      let r = a_term (tag_of c) 0 s.start 0 in
      judged_both g w k (Left Numbers.Zero t) (Tested (suc m)) (fault_of wide a) (fault_of wide b ++ []) A (B ++ (r ∷ J)) i Numbers.Zero t (calculation_judged g w wide k a (measured_first g w wide (terms_of_calculation a) (terms_of (joined_by s ∷ whole_number b ∷ [])) h) i Numbers.Zero t (omega arith))
      (λ s₁ t₁ q.
      judged_both g w k (Left s₁ t₁) (Tested (suc m)) (fault_of wide b) [] B (r ∷ J) (i + length A) s₁ t₁ (calculation_judged g w wide k b (measured_first g w wide (terms_of_calculation b) [] (measured_second g w wide (terms_of_calculation a) (terms_of (joined_by s ∷ whole_number b ∷ [])) h)) (i + length A) s₁ t₁ (one_room q))
      (λ s₂ t₂ u.
      let n = notes g w c s.start (pos q.size) (pos u.size) t in
      judged_both g w k (Tested (suc d)) (Tested (suc m)) [] [] (r ∷ []) J (i + length A + length B) s₂ t₂
      (judged_sign g w k d r (i + length A + length B) s₂ t₂ t n.test ((λ z. step_of k Mode.Sizes w (pos 0) (row_term g r) (sym (left_two q u) z) ((u.tests ∙ q.tests) z)) ∙ n.is) deep l)
      (after_test g w k (suc d) (Tested (suc m)) [] (i + length A + length B + 1) J (λ t' v. j (i + length A + length B + 1) t' v))))

  -- a condition, whose first part J joins to what stands before it
  pub tests_judged : {p : TestPart} {n : ℕ} (x : Tests p n) → Measured g w wide (terms_of (tests_parts x)) → (J : List TermRow) (i t d m : ℕ) → Deep d t → d ≤ suc m → m + 2 * (16 - n) ≤ 57 → Joins d m J
      → Judged (Tested (suc m)) (calculation_faults wide (tests_parts x)) i (tests_rows x J) (ran g w k i (tests_rows x J) Numbers.Zero t)
  unfolding tests_rows tests_parts
  tests_judged (compare a c s b) h J i t d m deep l r j = compare_judged a c s b h J i t d m deep (omega (arith, l, r)) j
  tests_judged (test_group depth opens a closes) h J i t d m deep l r j =
      judged_quiet g w k (Tested (suc d)) (Tested (suc m)) (calculation_faults wide (tests_parts a)) (tests_rows a []) J i Numbers.Zero t (tests_judged a h [] i t d d deep (omega arith) (omega (arith, l, r, depth)) (no_joins d))
      (after_test g w k (suc d) (Tested (suc m)) [] (i + length (tests_rows a [])) J (λ t' q. j (i + length (tests_rows a [])) t' q))
  tests_judged (one_test a) h J i t d m deep l r j = tests_judged a h J i t d m deep l r j
  tests_judged (all_of a s b) h J i t d m deep l r j =
      two s (tests_parts a) (tests_parts b) (tests_rows a J) (tests_rows b (a_term 13 0 s.start 0 ∷ [])) m i t (tests_judged a (parts_first g w wide (tests_parts a) (joined_by s ∷ tests_parts b) h) J i t d m deep l r j)
      (λ t' q. tests_judged b (after_sign g w wide s (tests_parts b) (parts_second g w wide (tests_parts a) (joined_by s ∷ tests_parts b) h)) (a_term 13 0 s.start 0 ∷ []) (i + length (tests_rows a J)) t' (suc m) m q (omega arith) r (and_joins m s.start (omega (arith, r))))
  tests_judged (any_of a s b) h J i t d m deep l r j =
      two s (tests_parts a) (tests_parts b) (tests_rows a J) (tests_rows b (a_term 11 0 s.start 0 ∷ [])) m i t (tests_judged a (parts_first g w wide (tests_parts a) (joined_by s ∷ tests_parts b) h) J i t d m deep l r j)
      (λ t' q. tests_judged b (after_sign g w wide s (tests_parts b) (parts_second g w wide (tests_parts a) (joined_by s ∷ tests_parts b) h)) (a_term 11 0 s.start 0 ∷ []) (i + length (tests_rows a J)) t' (suc m) m q (omega arith) r (or_joins m s.start (omega (arith, r))))
  tests_judged (last_conjunct a) h J i t d m deep l r j = tests_judged a h J i t d m deep l r j
  tests_judged (and_conjuncts a s b) h J i t d m deep l r j =
      two s (tests_parts a) (tests_parts b) (tests_rows a J) (tests_rows b (a_term 13 0 s.start 0 ∷ [])) m i t (tests_judged a (parts_first g w wide (tests_parts a) (joined_by s ∷ tests_parts b) h) J i t d m deep l r j)
      (λ t' q. tests_judged b (after_sign g w wide s (tests_parts b) (parts_second g w wide (tests_parts a) (joined_by s ∷ tests_parts b) h)) (a_term 13 0 s.start 0 ∷ []) (i + length (tests_rows a J)) t' (suc m) m q (omega arith) r (and_joins m s.start (omega (arith, r))))
  tests_judged (last_disjunct a) h J i t d m deep l r j = tests_judged a h J i t d m deep l r j
  tests_judged (or_disjuncts a s b) h J i t d m deep l r j =
      two s (tests_parts a) (tests_parts b) (tests_rows a J) (tests_rows b (a_term 11 0 s.start 0 ∷ [])) m i t (tests_judged a (parts_first g w wide (tests_parts a) (joined_by s ∷ tests_parts b) h) J i t d m deep l r j)
      (λ t' q. tests_judged b (after_sign g w wide s (tests_parts b) (parts_second g w wide (tests_parts a) (joined_by s ∷ tests_parts b) h)) (a_term 11 0 s.start 0 ∷ []) (i + length (tests_rows a J)) t' (suc m) m q (omega arith) r (or_joins m s.start (omega (arith, r))))
