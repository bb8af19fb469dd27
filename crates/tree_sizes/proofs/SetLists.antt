-- The rows of a set, worked out in sizes.
-- Assumes nothing.
use Prim.Native.Nat.{ℕ, suc, ◌+◌, ◌*◌, ◌-◌, ◌≤◌, ◌<◌}
use mathlib.Core.Path.{◌≡◌, refl, sym, ap, subst, ◌∙◌}
use mathlib.Core.Bool.{true}
use mathlib.Core.List.{List, [], ◌∷◌, ◌++◌, append-nil, append_assoc}
use native.Mathlib.Omega.{arith}
use lib.IntN.{ℤ, pos}
use lib.ListN.{length}
use Rattle.term_words.specs.Numbers.{equals, top_of, pair_of}
use Rattle.term_words.specs.Words.{term_of}
use Rattle.term_words.specs.Steps.{equal_to, within, from as on_from, up_to}
use Rattle.term_words.specs.declared.Joint.{Joint}
use Rattle.term_words.specs.declared.Kind.{Kind}
use Rattle.term_words.specs.declared.Numbers.{Numbers}
use Rattle.tree.specs.Lexemes.{Sign}
use Rattle.tree.specs.Tree.{Calculation, Item, everything, only, between, from, up_to_bound, SetPart, Choices, item, item_but_item, item_but_set, last_choice, or_choices}
use Rattle.tree_meaning.specs.Pieces.{terms_of_calculation, Component, whole_number, joined_by, item_parts, set_parts, terms_of}
use Rattle.tree_meaning.specs.Sizes.{calculation_faults}
use Rattle.tree_store.proofs.Rows.{TermRow, a_term, last_marked, calculation_rows, item_rows, set_rows}
use Rattle.tree_store.proofs.Lengths.{some_calculation}
use Rattle.tree_store.proofs.Uses.{terms_append}
use Rattle.tree_sizes.proofs.Tells.{calculation_counts}
use Rattle.tree_sizes.proofs.Runs.{Came, came_map, ran, ran_none, ran_marked, stop_marked}
use Rattle.tree_sizes.proofs.Reckoning.{Measured, measured_first, measured_second}
use Rattle.tree_sizes.proofs.Lists.{Deep, more_deep, noted_is, Tested, Faulty, Passed, Judged, judged_both, judged_as, judged_quiet, judged_sign, judged_join, after_test, reckoned_parts, Left, fault_of, calculation_judged, left_one, left_two, one_room}
use Rattle.std.specs.Prelude.{Result, Ok}
use Rattle.term_words.specs.declared.TermError.{TermError}

-- faults of components one after the other
pub faults_append : (wide : List ℕ → ℕ) (f m : List Component) → calculation_faults wide (f ++ m) ≡ calculation_faults wide f ++ calculation_faults wide m
unfolding calculation_faults
faults_append wide [] m = refl
faults_append wide (whole_number c ∷ f) m =
    let l = fault_of wide c in ap (λ (n : List ℕ). l ++ n) (faults_append wide f m) ∙ sym (append_assoc l (calculation_faults wide f) (calculation_faults wide m))
faults_append wide (joined_by s ∷ f) m = faults_append wide f m

module _ (g : ℕ → ℕ) (w : List ℤ) (wide : List ℕ → ℕ) where
  -- of components one after the other
  pub parts_first : (f m : List Component) → Measured g w wide (terms_of (f ++ m)) → Measured g w wide (terms_of f)
  parts_first f m h = measured_first g w wide (terms_of f) (terms_of m) (subst (Measured g w wide) (terms_append f m) h)

  -- of those after them
  pub parts_second : (f m : List Component) → Measured g w wide (terms_of (f ++ m)) → Measured g w wide (terms_of m)
  parts_second f m h = measured_second g w wide (terms_of f) (terms_of m) (subst (Measured g w wide) (terms_append f m) h)

  -- the same behind a sign
  pub after_sign : (s : Sign) (m : List Component) → Measured g w wide (terms_of (joined_by s ∷ m)) → Measured g w wide (terms_of m)
  unfolding Measured terms_of
  after_sign s m h = h

  -- a sign has no fault
  pub again : (s : Sign) (f : List Component) (l : List ℕ) → l ++ calculation_faults wide (joined_by s ∷ f) ≡ l ++ calculation_faults wide f
  unfolding calculation_faults
  again s f l = refl

  abbrev k : Kind
  k = Kind.Set

  -- an item `a`
  only_judged : (a : Calculation) → Measured g w wide (terms_of_calculation a) → (i t d : ℕ) → Deep d t → d < 62 → Judged (Tested (suc d)) (fault_of wide a) i (last_marked (calculation_rows a)) (ran g w k i (last_marked (calculation_rows a)) Numbers.Zero t)
  only_judged a h i t d deep l =
      let A = calculation_rows a in
      let F = fault_of wide a in
      let y = ran g w k i (last_marked A) Numbers.Zero t in
      came_map (λ s' t'. (F ≡ []) × Tested (suc d) s' t') (λ s' t'. (F ≡ []) × Tested (suc d) s' t') (Faulty i A F) (Faulty i (last_marked A) F) y.trial y.at (λ s' t' q. q)
      (λ j q. record { origin = q.origin; stop = stop_marked A q.stop; rest = q.rest; first_is = q.first_is })
      (ran_marked g w (λ s' t'. (F ≡ []) × Left Numbers.Zero t s' t') (λ s' t'. (F ≡ []) × Tested (suc d) s' t') (Faulty i A F) A i Numbers.Zero t (some_calculation a) (reckoned_parts g (calculation_counts a)) (calculation_judged g w wide k a h i Numbers.Zero t (omega arith))
      (λ s' t' q.
      let n = pos q.1.size in
      let e : Ok (Numbers.Zero, t * 2 + _) ≡ equal_to (pos 0) (top_of s') t' = sym (noted_is t d (equals n (pos 0)) deep l) ∙ (λ j. equal_to (pos 0) (top_of (left_one q.1 j)) (sym q.1.tests j)) in
      subst (λ (x : Result (Numbers × ℕ) TermError). Came (λ s'' t''. (F ≡ []) × Tested (suc d) s'' t'') (Faulty i A F) x (i + length A - 1)) e (q.0, (refl, more_deep t d (equals n (pos 0)) deep))))

  item_judged : (x : Item) → Measured g w wide (terms_of (item_parts x)) → (i t d : ℕ) → Deep d t → d < 62 → Judged (Tested (suc d)) (calculation_faults wide (item_parts x)) i (item_rows x) (ran g w k i (item_rows x) Numbers.Zero t)
  unfolding Measured item_rows terms_of calculation_faults term_of
  item_judged (everything s) h i t d deep l = judged_sign g w k d (a_term 7 0 s.start 0) i Numbers.Zero t t true refl deep l
  item_judged (only a) h i t d deep l =
      judged_as g w k (Tested (suc d)) (fault_of wide a) (fault_of wide a ++ []) i (last_marked (calculation_rows a)) (ran g w k i (last_marked (calculation_rows a)) Numbers.Zero t) (sym (append-nil (fault_of wide a)))
      (only_judged a (measured_first g w wide (terms_of_calculation a) [] h) i t d deep l)
  item_judged (between a s b) h i t d deep l =
      let A = calculation_rows a in
      let B = calculation_rows b in
      let r = a_term 8 0 s.start 0 in
      judged_both g w k (Left Numbers.Zero t) (Tested (suc d)) (fault_of wide a) (fault_of wide b ++ []) A (B ++ (r ∷ [])) i Numbers.Zero t (calculation_judged g w wide k a (measured_first g w wide (terms_of_calculation a) (terms_of (joined_by s ∷ whole_number b ∷ [])) h) i Numbers.Zero t (omega arith))
      (λ s₁ t₁ q.
      judged_both g w k (Left s₁ t₁) (Tested (suc d)) (fault_of wide b) [] B (r ∷ []) (i + length A) s₁ t₁ (calculation_judged g w wide k b (measured_first g w wide (terms_of_calculation b) [] (measured_second g w wide (terms_of_calculation a) (terms_of (joined_by s ∷ whole_number b ∷ [])) h)) (i + length A) s₁ t₁ (one_room q))
      (λ s₂ t₂ u. judged_sign g w k d r (i + length A + length B) s₂ t₂ t _ (λ j. within (pos 0) (pair_of (sym (left_two q u) j)) ((u.tests ∙ q.tests) j)) deep l))
  item_judged (from a s) h i t d deep l =
      let A = calculation_rows a in
      let r = a_term 9 0 s.start 0 in
      judged_both g w k (Left Numbers.Zero t) (Tested (suc d)) (fault_of wide a) [] A (r ∷ []) i Numbers.Zero t (calculation_judged g w wide k a (measured_first g w wide (terms_of_calculation a) (terms_of (joined_by s ∷ [])) h) i Numbers.Zero t (omega arith))
      (λ s₁ t₁ q. judged_sign g w k d r (i + length A) s₁ t₁ t _ (λ j. on_from (pos 0) (top_of (sym (left_one q) j)) (q.tests j)) deep l)
  item_judged (up_to_bound s b) h i t d deep l =
      let A = calculation_rows b in
      let r = a_term 10 0 s.start 0 in
      judged_both g w k (Left Numbers.Zero t) (Tested (suc d)) (fault_of wide b) [] A (r ∷ []) i Numbers.Zero t (calculation_judged g w wide k b (measured_first g w wide (terms_of_calculation b) [] h) i Numbers.Zero t (omega arith))
      (λ s₁ t₁ q. judged_sign g w k d r (i + length A) s₁ t₁ t _ (λ j. up_to (pos 0) (top_of (sym (left_one q) j)) (q.tests j)) deep l)

  -- J joins the tests from depth suc d on to depth suc m
  abbrev Joins : ℕ → ℕ → List TermRow → Type 0
  Joins d m J = (i t : ℕ) → Deep (suc d) t → Judged (Tested (suc m)) [] i J (ran g w k i J Numbers.Zero t)

  -- one test with the next
  or_joins : (m s : ℕ) → m < 62 → Joins (suc m) m (a_term 11 0 s 0 ∷ [])
  unfolding term_of
  or_joins m s l i t h = judged_join g w k Joint.Or m (a_term 11 0 s 0) (λ x y. refl) i t h l

  except_joined : (d m s : ℕ) (J : List TermRow) → d < 62 → Joins d m J → (i t : ℕ) → Deep (suc (suc d)) t → Judged (Tested (suc m)) [] i (a_term 12 0 s 0 ∷ J) (ran g w k i (a_term 12 0 s 0 ∷ J) Numbers.Zero t)
  unfolding term_of
  except_joined d m s J l j i t h =
      judged_both g w k (Tested (suc d)) (Tested (suc m)) [] [] (a_term 12 0 s 0 ∷ []) J i Numbers.Zero t (judged_join g w k Joint.Except d (a_term 12 0 s 0) (λ x y. refl) i t h l)
      (after_test g w k (suc d) (Tested (suc m)) [] (i + 1) J (λ t' q. j (i + 1) t' q))

  -- a set alone
  pub nothing_joins : (d : ℕ) → Joins d d []
  nothing_joins d i t h = ran_none g w k (Passed (Tested (suc d)) []) (Faulty i [] []) i Numbers.Zero t (refl, (refl, h))

  -- a set, whose first alternative J joins to what stands before it
  pub set_judged : {p : SetPart} {n : ℕ} (x : Choices p n) → Measured g w wide (terms_of (set_parts x)) → (J : List TermRow) (i t d m : ℕ) → Deep d t → d ≤ suc m → m + 2 * (16 - n) ≤ 57 → Joins d m J
      → Judged (Tested (suc m)) (calculation_faults wide (set_parts x)) i (set_rows x J) (ran g w k i (set_rows x J) Numbers.Zero t)
  unfolding set_rows set_parts
  set_judged (item a) h J i t d m deep l b j =
      judged_quiet g w k (Tested (suc d)) (Tested (suc m)) (calculation_faults wide (item_parts a)) (item_rows a) J i Numbers.Zero t (item_judged a h i t d deep (omega (arith, l, b)))
      (after_test g w k (suc d) (Tested (suc m)) [] (i + length (item_rows a)) J (λ t' q. j (i + length (item_rows a)) t' q))
  set_judged (item_but_item a s c) h J i t d m deep l b j =
      let A = item_rows a in
      let C = item_rows c in
      let r = a_term 12 0 s.start 0 in
      judged_as g w k (Tested (suc m)) (calculation_faults wide (item_parts a) ++ calculation_faults wide (item_parts c)) (calculation_faults wide (item_parts a ++ (joined_by s ∷ item_parts c))) i (A ++ (C ++ r ∷ J)) (ran g w k i (A ++ (C ++ r ∷ J)) Numbers.Zero t)
      (sym (faults_append wide (item_parts a) (joined_by s ∷ item_parts c) ∙ again s (item_parts c) (calculation_faults wide (item_parts a))))
      (judged_both g w k (Tested (suc d)) (Tested (suc m)) (calculation_faults wide (item_parts a)) (calculation_faults wide (item_parts c)) A (C ++ r ∷ J) i Numbers.Zero t (item_judged a (parts_first (item_parts a) (joined_by s ∷ item_parts c) h) i t d deep (omega (arith, l, b)))
      (after_test g w k (suc d) (Tested (suc m)) (calculation_faults wide (item_parts c)) (i + length A) (C ++ r ∷ J)
      (λ t' q.
      judged_quiet g w k (Tested (suc (suc d))) (Tested (suc m)) (calculation_faults wide (item_parts c)) C (r ∷ J) (i + length A) Numbers.Zero t' (item_judged c (after_sign s (item_parts c) (parts_second (item_parts a) (joined_by s ∷ item_parts c) h)) (i + length A) t' (suc d) q (omega (arith, l, b)))
      (after_test g w k (suc (suc d)) (Tested (suc m)) [] (i + length A + length C) (r ∷ J) (λ t'' u. except_joined d m s.start J (omega (arith, l, b)) j (i + length A + length C) t'' u)))))
  set_judged {n = n} (item_but_set depth a s opens c closes) h J i t d m deep l b j =
      let A = item_rows a in
      let C = set_rows c [] in
      let r = a_term 12 0 s.start 0 in
      judged_as g w k (Tested (suc m)) (calculation_faults wide (item_parts a) ++ calculation_faults wide (set_parts c)) (calculation_faults wide (item_parts a ++ (joined_by s ∷ set_parts c))) i (A ++ (C ++ r ∷ J)) (ran g w k i (A ++ (C ++ r ∷ J)) Numbers.Zero t)
      (sym (faults_append wide (item_parts a) (joined_by s ∷ set_parts c) ∙ again s (set_parts c) (calculation_faults wide (item_parts a))))
      (judged_both g w k (Tested (suc d)) (Tested (suc m)) (calculation_faults wide (item_parts a)) (calculation_faults wide (set_parts c)) A (C ++ r ∷ J) i Numbers.Zero t (item_judged a (parts_first (item_parts a) (joined_by s ∷ set_parts c) h) i t d deep (omega (arith, l, b)))
      (after_test g w k (suc d) (Tested (suc m)) (calculation_faults wide (set_parts c)) (i + length A) (C ++ r ∷ J)
      (λ t' q.
      judged_quiet g w k (Tested (suc (suc d))) (Tested (suc m)) (calculation_faults wide (set_parts c)) C (r ∷ J) (i + length A) Numbers.Zero t'
      (set_judged c (after_sign s (set_parts c) (parts_second (item_parts a) (joined_by s ∷ set_parts c) h)) [] (i + length A) t' (suc d) (suc d) q (omega arith) (omega (arith, l, b, depth)) (nothing_joins (suc d)))
      (after_test g w k (suc (suc d)) (Tested (suc m)) [] (i + length A + length C) (r ∷ J) (λ t'' u. except_joined d m s.start J (omega (arith, l, b)) j (i + length A + length C) t'' u)))))
  set_judged (last_choice a) h J i t d m deep l b j = set_judged a h J i t d m deep l b j
  set_judged (or_choices a s c) h J i t d m deep l b j =
      let A = set_rows a J in
      let C = set_rows c (a_term 11 0 s.start 0 ∷ []) in
      judged_as g w k (Tested (suc m)) (calculation_faults wide (set_parts a) ++ calculation_faults wide (set_parts c)) (calculation_faults wide (set_parts a ++ (joined_by s ∷ set_parts c))) i (A ++ C) (ran g w k i (A ++ C) Numbers.Zero t)
      (sym (faults_append wide (set_parts a) (joined_by s ∷ set_parts c) ∙ again s (set_parts c) (calculation_faults wide (set_parts a))))
      (judged_both g w k (Tested (suc m)) (Tested (suc m)) (calculation_faults wide (set_parts a)) (calculation_faults wide (set_parts c)) A C i Numbers.Zero t (set_judged a (parts_first (set_parts a) (joined_by s ∷ set_parts c) h) J i t d m deep l b j)
      (after_test g w k (suc m) (Tested (suc m)) (calculation_faults wide (set_parts c)) (i + length A) C
      (λ t' q. set_judged c (after_sign s (set_parts c) (parts_second (set_parts a) (joined_by s ∷ set_parts c) h)) (a_term 11 0 s.start 0 ∷ []) (i + length A) t' (suc m) m q (omega arith) b (or_joins m s.start (omega (arith, b))))))
