-- What refusal 8 finds in a list of the table that holds the rows of a set, of counts or of a condition: the first of its calculations' faults.
-- Assumes nothing.
use Prim.Native.Nat.{ℕ, suc, ◌+◌, ◌-◌, ◌≤◌, ◌<◌}
use mathlib.Core.Path.{◌≡◌, refl, sym, ap, subst, ◌∙◌}
use mathlib.Core.Bool.{Bool, true, false, cond}
use mathlib.Core.List.{List, [], ◌∷◌, ◌++◌, map, append-nil, append_assoc}
use native.Mathlib.Omega.{arith}
use borrow.Author.Tests.{lt-ltb}
use lib.Dec.{eqb}
use lib.IntN.{ℤ, pos}
use lib.ListN.{length, length-append}
use Rattle.basis.specs.Counts.{Counts as Passes, exactly as so-many, at_least, span as from_to}
use Rattle.term_words.specs.Words.{term_of, term_at, terms_from, terms}
use Rattle.term_words.specs.declared.Kind.{Kind}
use Rattle.term_words.specs.declared.Mode.{Mode}
use Rattle.term_words.specs.declared.Numbers.{Numbers}
use Rattle.term_words.specs.declared.Term.{Term}
use Rattle.term_evaluation.specs.Meaning.{run, last_of, verdict_of}
use Rattle.term_evaluation.specs.Counts.{shown, form_of, calculations_end, of_numbers, of_trial, tallied_by, tallied}
use Rattle.term_evaluation.specs.declared.Form.{Form}
use Rattle.term_sizes.specs.Sizes.{of_tested, of_counted, of_tally, sizes, count_sizes}
use Rattle.text_store.specs.Words.{term_origin}
use Rattle.text_admission.specs.Extents.{list_found}
use Rattle.text_admission.specs.declared.Found.{Found}
use Rattle.tree.specs.Tree.{Calculation, ValueSet, Condition, Counts, exactly, at_least_count, at_most, span}
use Rattle.tree_meaning.specs.Pieces.{terms_of_calculation, whole_number, joined_by, set_parts, counts_parts, tests_parts, terms_of}
use Rattle.tree_meaning.specs.Sizes.{calculation_faults}
use Rattle.tree_store.proofs.Rows.{TermRow, a_term, calculation_rows, set_rows, counts_rows, tests_rows}
use Rattle.tree_store.proofs.Lengths.{some_calculation}
use Rattle.tree_grammar.proofs.Lists.{RowsAt, rows_left}
use Rattle.tree_sizes.proofs.Tells.{calculation_counts}
use Rattle.tree_sizes.proofs.Runs.{stop_origin, Came, came_map, row_term, PartRows, part_then, ran}
use Rattle.tree_sizes.proofs.Reckoning.{Measured, measured_first, measured_second}
use Rattle.tree_sizes.proofs.Lists.{Tested, Faulty, Passed, Judged, judged_both, judged_as, reckoned_parts, Left, fault_of, calculation_judged, one_room}
use Rattle.tree_sizes.proofs.SetLists.{set_judged, nothing_joins}
use Rattle.tree_sizes.proofs.TestLists.{tests_judged, no_joins}
use Rattle.std.specs.Prelude.{Result, Ok, Err}
use Rattle.term_words.specs.declared.TermError.{TermError}

-- what is found is the first of these, where there is one
abbrev pub Matches : Found → List ℕ → Type 0
Matches Found.Nothing l = l ≡ []
Matches (Found.At o) l = (rest : List ℕ) × (l ≡ o ∷ rest)

-- whatever waits
abbrev Any : Numbers → ℕ → Type 0
Any s t = Unit {0}

-- ---- the end of a list

answered : (ts : List ℕ) (f i at : ℕ) (s : Numbers) (t : ℕ) → list_found ts f i (of_tested (last_of s t) at) ≡ Found.Nothing
answered ts f i at Numbers.Zero t = by (eqb t 2) (eqb t 3)
  where
    by : (a b : Bool) → list_found ts f i (of_tested (cond a (Ok false) (cond b (Ok true) (Err TermError.Malformed))) at) ≡ Found.Nothing
    by true b = refl
    by false true = refl
    by false false = refl
answered ts f i at (Numbers.One a) t = refl
answered ts f i at (Numbers.Two a b) t = refl
answered ts f i at (Numbers.Three a b c) t = refl
answered ts f i at (Numbers.Four a b c d) t = refl

shown_found : (ts : List ℕ) (f i at : ℕ) (c : Passes) → list_found ts f i (of_counted (shown c) at) ≡ Found.Nothing
shown_found ts f i at Passes.none = refl
shown_found ts f i at (Passes.from low) = refl
shown_found ts f i at (Passes.within low more) = refl

counted : (ts : List ℕ) (f i at : ℕ) (m : Form) (s : Numbers) → list_found ts f i (of_counted (of_numbers m s) at) ≡ Found.Nothing
counted ts f i at m Numbers.Zero = refl
counted ts f i at Form.Exact (Numbers.One a) = shown_found ts f i at (so-many a)
counted ts f i at Form.Open (Numbers.One a) = shown_found ts f i at (at_least a)
counted ts f i at Form.UpTo (Numbers.One a) = shown_found ts f i at (from_to (pos 0) a)
counted ts f i at Form.Closed (Numbers.One a) = refl
counted ts f i at Form.Exact (Numbers.Two a b) = refl
counted ts f i at Form.Open (Numbers.Two a b) = refl
counted ts f i at Form.UpTo (Numbers.Two a b) = refl
counted ts f i at Form.Closed (Numbers.Two a b) = shown_found ts f i at (from_to a b)
counted ts f i at m (Numbers.Three a b c) = refl
counted ts f i at m (Numbers.Four a b c d) = refl

stopped : {ts : List ℕ} {f i at : ℕ} {A : List TermRow} {l : List ℕ} → RowsAt ts f A → Faulty i A l at → Matches (Found.At (term_origin ts (f + (at - i)))) l
stopped h q = (q.rest, q.first_is ∙ ap (λ (o : ℕ). o ∷ q.rest) (sym (stop_origin h q.stop)))

tested_found : (P : Numbers → ℕ → Type 0) (l ts : List ℕ) (f i at : ℕ) (A : List TermRow) (x : Result (Numbers × ℕ) TermError) → RowsAt ts f A → Came (Passed P l) (Faulty i A l) x at → Matches (list_found ts f i (of_tested (verdict_of x) at)) l
tested_found P l ts f i at A (Ok (s, t)) h q = subst (λ (y : Found). Matches y l) (sym (answered ts f i at s t)) q.0
tested_found P l ts f i at A (Err TermError.Malformed) h q = absurd q
tested_found P l ts f i at A (Err TermError.Overflow) h q = stopped h q

counted_found : (P : Numbers → ℕ → Type 0) (l ts : List ℕ) (f i at : ℕ) (A : List TermRow) (m : Form) (x : Result (Numbers × ℕ) TermError) → RowsAt ts f A → Came (Passed P l) (Faulty i A l) x at → Matches (list_found ts f i (of_counted (of_trial m x) at)) l
counted_found P l ts f i at A m (Ok (s, t)) h q = subst (λ (y : Found). Matches y l) (sym (counted ts f i at m s)) q.0
counted_found P l ts f i at A m (Err TermError.Malformed) h q = absurd q
counted_found P l ts f i at A m (Err TermError.Overflow) h q = stopped h q

-- ---- terms of the table that are rows

module _ (g : ℕ → ℕ) (W : List ℕ) where
  -- the table's terms from number i on are these rows
  unfoldable pub Written : ℕ → List TermRow → Type 0
  Written i [] = Unit {0}
  Written i (r ∷ A) = (term_at W i ≡ row_term g r) × Written (i + 1) A

  written_left : (i : ℕ) (A B : List TermRow) → Written i (A ++ B) → Written i A
  unfolding Written
  written_left i [] B h = tt
  written_left i (r ∷ A) B h = (h.0, written_left (i + 1) A B h.1)

  written_right : (i : ℕ) (A B : List TermRow) → Written i (A ++ B) → Written (i + length A) B
  unfolding Written
  written_right i [] B h = subst (λ (k : ℕ). Written k B) (let z : i ≡ i + 0 = omega arith in z) h
  written_right i (r ∷ A) B h = subst (λ (k : ℕ). Written k B) (let z : i + 1 + length A ≡ i + suc (length A) = omega arith in z) (written_right (i + 1) A B h.1)

  written_from : (i : ℕ) (A : List TermRow) → Written i A → terms_from W i (length A) ≡ map (row_term g) A
  unfolding Written terms_from
  written_from i [] h = refl
  written_from i (r ∷ A) h = λ t. h.0 t ∷ written_from (i + 1) A h.1 t

  -- so their list is the rows' terms
  pub written_terms : (i e : ℕ) (A : List TermRow) → e ≡ i + length A → Written i A → terms W i e ≡ map (row_term g) A
  written_terms i e A q h = ap (terms_from W i) (let z : e - i ≡ length A = omega arith in z) ∙ written_from i A h

  -- a calculation ends in a part
  last_part : (i : ℕ) (A : List TermRow) → 1 ≤ length A → PartRows g A → Written i A → form_of (term_at W (i + length A - 1)) ≡ Form.Exact
  unfolding Written
  last_part i [] l p h = absurd (omega arith)
  last_part i (r ∷ []) l (part_then a p) h = ap (λ (k : ℕ). form_of (term_at W k)) (let z : i + 1 - 1 ≡ i = omega arith in z) ∙ ap form_of (h.0 ∙ a.as_part)
  last_part i (r ∷ q ∷ A) l (part_then a p) h =
      ap (λ (k : ℕ). form_of (term_at W k)) (let z : i + suc (suc (length A)) - 1 ≡ i + 1 + suc (length A) - 1 = omega arith in z) ∙ last_part (i + 1) (q ∷ A) (omega arith) p h.1

  module _ (w : List ℤ) (wide : List ℕ → ℕ) (ts : List ℕ) (f i : ℕ) where
    -- ---- sets and conditions

    -- of a set
    pub set_found : {n : ℕ} (x : ValueSet n) (e : ℕ) → e ≡ i + length (set_rows x []) → Measured g w wide (terms_of (set_parts x)) → RowsAt ts f (set_rows x []) → Written i (set_rows x [])
        → Matches (list_found ts f i (sizes Kind.Set w i (terms W i e))) (calculation_faults wide (set_parts x))
    unfolding sizes
    set_found x e q h rows at =
        let A = set_rows x [] in
        let y = ran g w Kind.Set i A Numbers.Zero 1 in
        subst (λ (L : List Term). Matches (list_found ts f i (sizes Kind.Set w i L)) (calculation_faults wide (set_parts x))) (sym (written_terms i e A q at))
        (tested_found (Tested 1) (calculation_faults wide (set_parts x)) ts f i y.at A y.trial rows (set_judged g w wide x h [] i 1 0 0 (omega arith, omega arith) (omega arith) (omega arith) (nothing_joins g w wide 0)))

    -- of a condition
    pub condition_found : {n : ℕ} (x : Condition n) (e : ℕ) → e ≡ i + length (tests_rows x []) → Measured g w wide (terms_of (tests_parts x)) → RowsAt ts f (tests_rows x []) → Written i (tests_rows x [])
        → Matches (list_found ts f i (sizes Kind.Condition w i (terms W i e))) (calculation_faults wide (tests_parts x))
    unfolding sizes
    condition_found x e q h rows at =
        let A = tests_rows x [] in
        let y = ran g w Kind.Condition i A Numbers.Zero 1 in
        subst (λ (L : List Term). Matches (list_found ts f i (sizes Kind.Condition w i L)) (calculation_faults wide (tests_parts x))) (sym (written_terms i e A q at))
        (tested_found (Tested 1) (calculation_faults wide (tests_parts x)) ts f i y.at A y.trial rows (tests_judged g w wide x h [] i 1 0 0 (omega arith, omega arith) (omega arith) (omega arith) (no_joins g w wide 0)))

    -- ---- counts

    tally_found : (P : Numbers → ℕ → Type 0) (l : List ℕ) (A : List TermRow) (m : Form) (e : ℕ) → i < e → form_of (term_at W (e - 1)) ≡ m → terms W i (calculations_end m (e - 1) e) ≡ map (row_term g) A → RowsAt ts f A
        → Judged P l i A (ran g w Kind.Calculation i A Numbers.Zero 1) → Matches (list_found ts f i (count_sizes w W i e)) l
    unfolding count_sizes tallied
    tally_found P l A m e some form list rows q =
        let y = ran g w Kind.Calculation i A Numbers.Zero 1 in
        let z : list_found ts f i (count_sizes w W i e) ≡ list_found ts f i (of_counted (of_trial m y.trial) y.at) =
        ap (λ (b : Bool). list_found ts f i (of_tally (cond b (tallied_by (form_of (term_at W (e - 1))) Mode.Sizes w W i e) (record { counted = Err TermError.Malformed; at = i })))) (lt-ltb i e some)
        ∙ ap (λ (k : Form). list_found ts f i (of_tally (tallied_by k Mode.Sizes w W i e))) form
        ∙ ap (λ (L : List Term). list_found ts f i (of_counted (of_trial m (run Kind.Calculation Mode.Sizes w (pos 0) i L Numbers.Zero 1).trial) (run Kind.Calculation Mode.Sizes w (pos 0) i L Numbers.Zero 1).at)) list in
        subst (λ (k : Found). Matches k l) (sym z) (counted_found P l ts f i y.at A m y.trial rows q)

    -- one calculation
    one_judged : (a : Calculation) → Measured g w wide (terms_of_calculation a) → Judged (Left Numbers.Zero 1) (fault_of wide a ++ []) i (calculation_rows a) (ran g w Kind.Calculation i (calculation_rows a) Numbers.Zero 1)
    one_judged a h =
        let F = fault_of wide a in
        judged_as g w Kind.Calculation (Left Numbers.Zero 1) F (F ++ []) i (calculation_rows a) (ran g w Kind.Calculation i (calculation_rows a) Numbers.Zero 1) (sym (append-nil F)) (calculation_judged g w wide Kind.Calculation a h i Numbers.Zero 1 (omega arith))

    -- rows and then a sign that is their form
    signed_found : (P : Numbers → ℕ → Type 0) (l : List ℕ) (A : List TermRow) (r : TermRow) (m : Form) (e : ℕ) → e ≡ i + length (A ++ (r ∷ [])) → form_of (row_term g r) ≡ m → calculations_end m (e - 1) e ≡ e - 1 → RowsAt ts f (A ++ (r ∷ [])) → Written i (A ++ (r ∷ []))
        → Judged P l i A (ran g w Kind.Calculation i A Numbers.Zero 1) → Matches (list_found ts f i (count_sizes w W i e)) l
    unfolding Written
    signed_found P l A r m e q form ends rows at j =
        let n : length (A ++ (r ∷ [])) ≡ length A + 1 = length-append A (r ∷ []) in
        let d : e - 1 ≡ i + length A = omega (arith, n, q) in
        tally_found P l A m e (omega (arith, n, q)) (ap (λ (k : ℕ). form_of (term_at W k)) d ∙ ap form_of (written_right i A (r ∷ []) at).0 ∙ form)
        (ap (terms W i) ends ∙ written_terms i (e - 1) A d (written_left i A (r ∷ []) at)) (rows_left A (r ∷ []) rows) j

    -- of each form of counts
    pub counts_found : (x : Counts) (e : ℕ) → e ≡ i + length (counts_rows x) → Measured g w wide (terms_of (counts_parts x)) → RowsAt ts f (counts_rows x) → Written i (counts_rows x)
        → Matches (list_found ts f i (count_sizes w W i e)) (calculation_faults wide (counts_parts x))
    unfolding counts_rows Measured terms_of calculation_faults term_of
    counts_found (exactly n) e q h rows at =
        let A = calculation_rows n in
        let some = some_calculation n in
        tally_found (Left Numbers.Zero 1) (fault_of wide n ++ []) A Form.Exact e (omega (arith, q, some)) (ap (λ (k : ℕ). form_of (term_at W (k - 1))) q ∙ last_part i A some (reckoned_parts g (calculation_counts n)) at) (written_terms i e A q at) rows
        (one_judged n (measured_first g w wide (terms_of_calculation n) [] h))
    counts_found (at_least_count a s) e q h rows at =
        signed_found (Left Numbers.Zero 1) (fault_of wide a ++ []) (calculation_rows a) (a_term 9 0 s.start 0) Form.Open e q refl refl rows at (one_judged a (measured_first g w wide (terms_of_calculation a) (terms_of (joined_by s ∷ [])) h))
    counts_found (at_most s b) e q h rows at =
        signed_found (Left Numbers.Zero 1) (fault_of wide b ++ []) (calculation_rows b) (a_term 10 0 s.start 0) Form.UpTo e q refl refl rows at (one_judged b (measured_first g w wide (terms_of_calculation b) [] h))
    counts_found (span a s b) e q h rows at =
        let A = calculation_rows a in
        let B = calculation_rows b in
        let r = a_term 8 0 s.start 0 in
        let F = fault_of wide b in
        let z : A ++ (B ++ (r ∷ [])) ≡ (A ++ B) ++ (r ∷ []) = sym (append_assoc A B (r ∷ [])) in
        signed_found Any (fault_of wide a ++ (F ++ [])) (A ++ B) r Form.Closed e (q ∙ ap (λ (l : List TermRow). i + length l) z) refl refl (subst (RowsAt ts f) z rows) (subst (Written i) z at)
        (judged_both g w Kind.Calculation (Left Numbers.Zero 1) Any (fault_of wide a) (F ++ []) A B i Numbers.Zero 1 (calculation_judged g w wide Kind.Calculation a (measured_first g w wide (terms_of_calculation a) (terms_of (joined_by s ∷ whole_number b ∷ [])) h) i Numbers.Zero 1 (omega arith))
        (λ s₁ t₁ u.
        let y = ran g w Kind.Calculation (i + length A) B s₁ t₁ in
        judged_as g w Kind.Calculation Any F (F ++ []) (i + length A) B y (sym (append-nil F))
        (came_map (Passed (Left s₁ t₁) F) (Passed Any F) (Faulty (i + length A) B F) (Faulty (i + length A) B F) y.trial y.at (λ s₂ t₂ v. (v.0, tt)) (λ j v. v)
        (calculation_judged g w wide Kind.Calculation b (measured_first g w wide (terms_of_calculation b) [] (measured_second g w wide (terms_of_calculation a) (terms_of (joined_by s ∷ whole_number b ∷ [])) h)) (i + length A) s₁ t₁ (one_room u)))))
