-- The terms of counts for which 8 is not given, at values within the variables' sizes, allow what the tree says.
-- Assumes nothing.
use Prim.Native.Nat.{ℕ, ◌+◌, ◌-◌}
use mathlib.Core.Path.{◌≡◌, refl, sym, ap, ◌∙◌, subst}
use mathlib.Core.Logic.{⊎_elim}
use mathlib.Core.Bool.{true, false, cond}
use mathlib.Core.List.{List, [], ◌∷◌, ◌++◌}
use mathlib.Core.Option.{none}
use native.Mathlib.Omega.{arith}
use lib.IntN.{ℤ, pos}
use lib.ListN.{length, take, length-append}
use lib.Seq.{get_or-append-add}
use Rattle.basis.specs.Counts.{Counts as Passes, zero_or_more}
use Rattle.basis.proofs.Booleans.{which}
use Rattle.term_words.specs.declared.Kind.{Kind}
use Rattle.term_words.specs.declared.Mode.{Mode}
use Rattle.term_words.specs.declared.Numbers.{Numbers}
use Rattle.term_words.specs.declared.Term.{Term}
use Rattle.term_words.specs.Numbers.{pair_of}
use Rattle.term_evaluation.specs.Meaning.{run}
use Rattle.term_evaluation.specs.Counts.{form_of, shown, of_one, of_two, of_numbers, of_trial}
use Rattle.term_evaluation.specs.declared.Form.{Form}
use Rattle.term_sizes.specs.Inside.{Inside}
use Rattle.term_sizes.proofs.Bounds.{none as no-numbers}
use Rattle.term_sizes.proofs.Depths.{depth_none}
use Rattle.term_sizes.proofs.Passing.{Follows, run_follows}
use Rattle.term_trees.specs.Trees.{Calculation as TermCalculation, value, repeats}
use Rattle.term_trees.specs.Rooms.{Room}
use Rattle.term_trees.specs.Postfix.{last_sign, before, calculation_terms, repeat_terms}
use Rattle.term_trees.proofs.Chains.{Good, ends, chain, run_ends, ends_append}
use Rattle.term_trees.proofs.Meanings.{Put, Two, calculation_ends, two_ends}
use Rattle.term_trees.proofs.Firm.{Firm, Wait, calculation_firm}
use Rattle.table_layout.specs.Held.{allowed}
use Rattle.text_meaning.specs.Meaning.{last_of, calculations, counts_in, static_counts}
use Rattle.tree.specs.Lexemes.{Sign}
use Rattle.tree.specs.Tree.{Calculation, only, between, from, up_to_bound, item, last_choice, Counts, exactly, at_least_count, at_most, span}
use Rattle.tree_meaning.specs.Pieces.{Term as TreeTerm, a_number, a_use, a_sign, terms_of_calculation, set_parts, counts_parts, terms_of}
use Rattle.tree_meaning.specs.Sizes.{too_large}
use Rattle.tree_meaning.specs.Values.{passes_in}
use Rattle.tree_meaning.specs.Grammar.{values_at, mentions_variable}
use Rattle.tree_meaning.proofs.Passing.{CalculationsFit}
use Rattle.tree_terms.specs.Terms.{calculation_tree, counts_tree, set_tree}
use Rattle.tree_terms.proofs.Small.{Calm, Put as SizePut, Two as SizeTwo, size_of, puts, two_from}
use Rattle.tree_terms.proofs.Fitting.{AsWide, calculation_sizes}
use Rattle.tree_terms.proofs.Rooms.{Known, set_room}
use Rattle.tree_terms.proofs.Meanings.{counts_mean}
use Rattle.tree_terms.proofs.Variables.{counts_variable}
use Rattle.tree_grammar.proofs.Widths.{none_wide, none_known, no_values}
use Rattle.std.specs.Prelude.{Some, Result, Ok, Err}
use Rattle.term_words.specs.declared.TermError.{TermError}

-- ---- trials

-- what is neither malformed nor, at its sizes, too large goes on
pub record GoesOn (x : Result (Numbers × ℕ) TermError) : Type 0 where
  pub stack : Numbers
  pub depth : ℕ
  pub is : x ≡ Ok (stack, depth)

goes_on : (P Q : Numbers → ℕ → Type 0) (x y : Result (Numbers × ℕ) TermError) → Firm P x → Calm Q y → Follows x y → GoesOn x
goes_on P Q x (Ok (s, t)) f c h = record { stack = h.0; depth = h.1; is = h.2 }
goes_on P Q x (Err TermError.Malformed) f c h = absurd (subst (Firm P) h f)
goes_on P Q x (Err TermError.Overflow) f c h = absurd c

one_of : (f : Form) (z : ℤ) (x : Result (Numbers × ℕ) TermError) → Good (Put Numbers.Zero 1 z) x → GoesOn x → of_trial f x ≡ of_one f z
one_of f z x g e =
    let h : Put Numbers.Zero 1 z e.stack e.depth = subst (Good (Put Numbers.Zero 1 z)) e.is g
    in let p : Numbers.One z ≡ e.stack = cc h.1
    in ap (of_trial f) e.is ∙ ap (of_numbers f) (sym p)

pair_is : (f : Form) (s : Numbers) (a b : ℤ) → pair_of s ≡ Some (Numbers.Zero, a, b) → of_numbers f s ≡ of_two f a b
pair_is f Numbers.Zero a b e = let z : ◌≡◌ {A = ℕ} 0 1 = cc e in absurd (omega arith)
pair_is f (Numbers.One x) a b e = let z : ◌≡◌ {A = ℕ} 0 1 = cc e in absurd (omega arith)
pair_is f (Numbers.Two x y) a b e =
    let p : ◌≡◌ {A = Numbers × ℤ × ℤ} (Numbers.Zero, x, y) (Numbers.Zero, a, b) = cc e in ap (λ (q : Numbers × ℤ × ℤ). of_two f q.1 q.2) p
pair_is f (Numbers.Three x y z) a b e =
    let p : ◌≡◌ {A = Numbers × ℤ × ℤ} (Numbers.One x, y, z) (Numbers.Zero, a, b) = cc e in
    let w : ◌≡◌ {A = ℕ} 0 1 = cc (ap (λ (q : Numbers × ℤ × ℤ). q.0) p) in absurd (omega arith)
pair_is f (Numbers.Four x y z w) a b e =
    let p : ◌≡◌ {A = Numbers × ℤ × ℤ} (Numbers.Two x y, z, w) (Numbers.Zero, a, b) = cc e in
    let u : ◌≡◌ {A = ℕ} 0 1 = cc (ap (λ (q : Numbers × ℤ × ℤ). q.0) p) in absurd (omega arith)

two_of : (f : Form) (a b : ℤ) (x : Result (Numbers × ℕ) TermError) → Good (Two Numbers.Zero 1 a b) x → GoesOn x → of_trial f x ≡ of_two f a b
two_of f a b x g e =
    let h : Two Numbers.Zero 1 a b e.stack e.depth = subst (Good (Two Numbers.Zero 1 a b)) e.is g in ap (of_trial f) e.is ∙ pair_is f e.stack a b h.1

firm_then : (P Q : Numbers → ℕ → Type 0) (go : Numbers → ℕ → Result (Numbers × ℕ) TermError) (r : Result (Numbers × ℕ) TermError) → Firm P r → ((s : Numbers) (t : ℕ) → P s t → Firm Q (go s t)) → Firm Q (chain go r)
firm_then P Q go (Ok (s, t)) p h = h s t p
firm_then P Q go (Err TermError.Malformed) p h = p
firm_then P Q go (Err TermError.Overflow) p h = tt

-- ---- lists that end in a sign

last_is : (L : List Term) (x : Term) → last_of (L ++ (x ∷ [])) ≡ x
last_is L x =
    let z : length (L ++ (x ∷ [])) - 1 ≡ length L + 0 = omega (arith, length-append L (x ∷ [])) in
    rw z (get_or-append-add L (x ∷ []) 0 Term.Bad)

take_front : (L M : List Term) → take (length L) (L ++ M) ≡ L
take_front [] M = refl
take_front (y ∷ L) M = ap (λ (l : List Term). y ∷ l) (take_front L M)

but_last : (L : List Term) (x : Term) → take (length (L ++ (x ∷ [])) - 1) (L ++ (x ∷ [])) ≡ L
but_last L x = ap (λ (n : ℕ). take n (L ++ (x ∷ []))) (let z : length (L ++ (x ∷ [])) - 1 ≡ length L = omega (arith, length-append L (x ∷ [])) in z) ∙ take_front L (x ∷ [])

allowed_shown : (c : Passes) → allowed (shown c) ≡ c
allowed_shown Passes.none = refl
allowed_shown (Passes.from low) = refl
allowed_shown (Passes.within low more) = refl

module _ (v : List ℤ) where
  -- of these calculations, written so
  abbrev tried : Form → List Term → Passes
  tried f L = allowed (of_trial f (run Kind.Calculation Mode.Values v (pos 0) 0 L Numbers.Zero 1).trial)

  ends_so : (x : Term) (L : List Term) → counts_in (L ++ (x ∷ [])) v ≡ tried (form_of x) (calculations (form_of x) (L ++ (x ∷ [])))
  ends_so x L = λ t. tried (form_of (last_is L x t)) (calculations (form_of (last_is L x t)) (L ++ (x ∷ [])))

-- ---- calculations

module _ (numbered widest : List ℕ → ℕ) where
  wide_first : (w : List ℤ) (l m : List TreeTerm) → AsWide numbered widest w (l ++ m) → AsWide numbered widest w l
  unfolding AsWide
  wide_first w [] m h = tt
  wide_first w (a_number n ∷ l) m h = wide_first w l m h
  wide_first w (a_use x ∷ l) m h = (h.0, wide_first w l m h.1)
  wide_first w (a_sign s ∷ l) m h = wide_first w l m h

  wide_second : (w : List ℤ) (l m : List TreeTerm) → AsWide numbered widest w (l ++ m) → AsWide numbered widest w m
  unfolding AsWide
  wide_second w [] m h = h
  wide_second w (a_number n ∷ l) m h = wide_second w l m h
  wide_second w (a_use x ∷ l) m h = wide_second w l m h.1
  wide_second w (a_sign s ∷ l) m h = wide_second w l m h

  module _ (v w : List ℤ) (inside : Inside v w) where
    room_here : (c : TermCalculation) (n : ℕ) → Room (length w) c n → Room (length v) c n
    room_here c n h = subst (λ (k : ℕ). Room k c n) (sym inside.same) h

    abbrev at_values : List Term → Result (Numbers × ℕ) TermError
    at_values L = (run Kind.Calculation Mode.Values v (pos 0) 0 L Numbers.Zero 1).trial

    abbrev at_sizes : List Term → Result (Numbers × ℕ) TermError
    at_sizes L = (run Kind.Calculation Mode.Sizes w (pos 0) 0 L Numbers.Zero 1).trial

    follows : (L : List Term) → Follows (at_values L) (at_sizes L)
    follows L = run_follows Mode.Values v w inside (pos 0) (pos 0) Kind.Calculation L 0 Numbers.Zero Numbers.Zero 1 1 no-numbers depth_none

    one_at : (f : Form) (c : Calculation) → AsWide numbered widest w (terms_of_calculation c) → too_large widest c ≡ false → Room (length w) (calculation_tree numbered c) 0
        → of_trial f (at_values (calculation_terms (calculation_tree numbered c))) ≡ of_one f (value v (calculation_tree numbered c))
    one_at f c a e room =
        let z = calculation_tree numbered c
        in let L = calculation_terms z
        in let same : at_values L ≡ ends Kind.Calculation Mode.Values v (pos 0) L Numbers.Zero 1 = run_ends Kind.Calculation Mode.Values v (pos 0) L 0 Numbers.Zero 1
        in let same' : at_sizes L ≡ ends Kind.Calculation Mode.Sizes w (pos 0) L Numbers.Zero 1 = run_ends Kind.Calculation Mode.Sizes w (pos 0) L 0 Numbers.Zero 1
        in let P = Wait Kind.Calculation Mode.Values v (pos 0) 1 1
        in let Q = SizePut Numbers.Zero 1 (size_of w z)
        in one_of f (value v z) (at_values L) (subst (Good (Put Numbers.Zero 1 (value v z))) (sym same) (calculation_ends Kind.Calculation v (pos 0) z Numbers.Zero 1))
        (goes_on P Q (at_values L) (at_sizes L) (subst (Firm P) (sym same) (calculation_firm Kind.Calculation Mode.Values v (pos 0) z 0 Numbers.Zero 1 (room_here z 0 room) refl))
        (subst (Calm Q) (sym same') (puts Kind.Calculation w (pos 0) z (calculation_sizes numbered widest w c a e).small Numbers.Zero 1)) (follows L))

    two_at : (f : Form) (c d : Calculation) → AsWide numbered widest w (terms_of_calculation c) → AsWide numbered widest w (terms_of_calculation d) → too_large widest c ≡ false → too_large widest d ≡ false
        → Room (length w) (calculation_tree numbered c) 0 → Room (length w) (calculation_tree numbered d) 1
        → of_trial f (at_values (calculation_terms (calculation_tree numbered c) ++ calculation_terms (calculation_tree numbered d))) ≡ of_two f (value v (calculation_tree numbered c)) (value v (calculation_tree numbered d))
    two_at f c d a a' e e' room room' =
        let y = calculation_tree numbered c
        in let z = calculation_tree numbered d
        in let L = calculation_terms y ++ calculation_terms z
        in let same : at_values L ≡ ends Kind.Calculation Mode.Values v (pos 0) L Numbers.Zero 1 = run_ends Kind.Calculation Mode.Values v (pos 0) L 0 Numbers.Zero 1
        in let same' : at_sizes L ≡ ends Kind.Calculation Mode.Sizes w (pos 0) L Numbers.Zero 1 = run_ends Kind.Calculation Mode.Sizes w (pos 0) L 0 Numbers.Zero 1
        in let O = Wait Kind.Calculation Mode.Values v (pos 0) 1 1
        in let P : Numbers → ℕ → Type 0 = λ s t. Unit {0}
        in let Q = SizeTwo Numbers.Zero 1 (size_of w y) (size_of w z)
        in let firm : Firm P (ends Kind.Calculation Mode.Values v (pos 0) L Numbers.Zero 1) =
        subst (Firm P) (sym (ends_append Kind.Calculation Mode.Values v (pos 0) (calculation_terms y) (calculation_terms z) Numbers.Zero 1))
        (firm_then O P (λ s t. ends Kind.Calculation Mode.Values v (pos 0) (calculation_terms z) s t) (ends Kind.Calculation Mode.Values v (pos 0) (calculation_terms y) Numbers.Zero 1)
        (calculation_firm Kind.Calculation Mode.Values v (pos 0) y 0 Numbers.Zero 1 (room_here y 0 room) refl)
        (λ s t h. looser (ends Kind.Calculation Mode.Values v (pos 0) (calculation_terms z) s t) t (calculation_firm Kind.Calculation Mode.Values v (pos 0) z 1 s t (room_here z 1 room') h.0)))
        in two_of f (value v y) (value v z) (at_values L) (subst (Good (Two Numbers.Zero 1 (value v y) (value v z))) (sym same) (two_ends Kind.Calculation v (pos 0) y z Numbers.Zero 1))
        (goes_on P Q (at_values L) (at_sizes L) (subst (Firm P) (sym same) firm)
        (subst (Calm Q) (sym same') (two_from Kind.Calculation w (pos 0) y z (puts Kind.Calculation w (pos 0) y (calculation_sizes numbered widest w c a e).small) (puts Kind.Calculation w (pos 0) z (calculation_sizes numbered widest w d a' e').small) Numbers.Zero 1)) (follows L))
      where
        looser : (x : Result (Numbers × ℕ) TermError) (t : ℕ) → Firm (Wait Kind.Calculation Mode.Values v (pos 0) 2 t) x → Firm (λ (s : Numbers) (k : ℕ). Unit {0}) x
        looser (Ok (s, k)) t h = tt
        looser (Err TermError.Malformed) t h = h
        looser (Err TermError.Overflow) t h = tt

    -- ---- counts

    one_list : (f : Form) (x : Term) (c : Calculation) (p : Passes) → AsWide numbered widest w (terms_of_calculation c) → too_large widest c ≡ false → Room (length w) (calculation_tree numbered c) 0
        → form_of x ≡ f → calculations f (calculation_terms (calculation_tree numbered c) ++ (x ∷ [])) ≡ calculation_terms (calculation_tree numbered c) → of_one f (value v (calculation_tree numbered c)) ≡ shown p
        → counts_in (calculation_terms (calculation_tree numbered c) ++ (x ∷ [])) v ≡ p
    one_list f x c p a e room form cut is =
        let L = calculation_terms (calculation_tree numbered c)
        in ends_so v x L
        ∙ ap (λ (g : Form). tried v g (calculations g (L ++ (x ∷ [])))) form
        ∙ ap (tried v f) cut
        ∙ ap allowed (one_at f c a e room ∙ is)
        ∙ allowed_shown p

    pub counts_answers : (x : Counts) → AsWide numbered widest w (terms_of (counts_parts x)) → Known numbered (length w) (terms_of (counts_parts x)) → CalculationsFit widest (counts_parts x)
        → counts_in (repeat_terms (counts_tree numbered x)) v ≡ passes_in (values_at numbered v) x
    unfolding repeat_terms CalculationsFit terms_of repeats set_tree set_parts
    counts_answers (exactly n) a k c =
        let z = calculation_tree numbered n
        in let room = set_room numbered (length w) {k = 0} (last_choice (item (only n))) k
        in ends_so v (Term.Part (last_sign z)) (before z) ∙ ap allowed (one_at Form.Exact n (wide_first w (terms_of_calculation n) [] a) c.0 room.0) ∙ allowed_shown (repeats v (counts_tree numbered (exactly n))) ∙ counts_mean numbered v (exactly n)
    counts_answers (at_least_count n s) a k c =
        let room = set_room numbered (length w) {k = 0} (last_choice (item (from n s))) k
        in one_list Form.Open Term.From n (repeats v (counts_tree numbered (at_least_count n s))) (wide_first w (terms_of_calculation n) (a_sign s ∷ []) a) c.0 room.0 refl (but_last (calculation_terms (calculation_tree numbered n)) Term.From) refl ∙ counts_mean numbered v (at_least_count n s)
    counts_answers (at_most s n) a k c =
        let room = set_room numbered (length w) {k = 0} (last_choice (item (up_to_bound s n))) k
        in one_list Form.UpTo Term.UpTo n (repeats v (counts_tree numbered (at_most s n))) (wide_up s n a) c.0 room.0 refl (but_last (calculation_terms (calculation_tree numbered n)) Term.UpTo) refl ∙ counts_mean numbered v (at_most s n)
      where
        wide_up : (s : Sign) (n : Calculation) → AsWide numbered widest w (a_sign s ∷ (terms_of_calculation n ++ [])) → AsWide numbered widest w (terms_of_calculation n)
        wide_up s n a = wide_first w (terms_of_calculation n) [] (wide_second w (a_sign s ∷ []) (terms_of_calculation n ++ []) a)
    counts_answers (span m s n) a k c =
        let y = calculation_tree numbered m
        in let z = calculation_tree numbered n
        in let L = calculation_terms y ++ calculation_terms z
        in let room = set_room numbered (length w) {k = 0} (last_choice (item (between m s n))) k
        in ends_so v Term.Range L
        ∙ ap (tried v Form.Closed) (but_last L Term.Range)
        ∙ ap allowed (two_at Form.Closed m n (wide_first w (terms_of_calculation m) (a_sign s ∷ (terms_of_calculation n ++ [])) a) (wide_first w (terms_of_calculation n) [] (wide_second w (a_sign s ∷ []) (terms_of_calculation n ++ []) (wide_second w (terms_of_calculation m) (a_sign s ∷ (terms_of_calculation n ++ [])) a))) c.0 c.1.0 room.0 room.1)
        ∙ allowed_shown (repeats v (counts_tree numbered (span m s n)))
        ∙ counts_mean numbered v (span m s n)

  -- "counts with a variable allowing all"
  pub counts_static : (x : Counts) → CalculationsFit widest (counts_parts x) → static_counts (repeat_terms (counts_tree numbered x)) ≡ cond (mentions_variable (counts_parts x)) zero_or_more (passes_in (values_at numbered []) x)
  counts_static x c =
      ⊎_elim
      (λ (e : mentions_variable (counts_parts x) ≡ true). (λ t. cond ((counts_variable numbered x ∙ e) t) zero_or_more (counts_in (repeat_terms (counts_tree numbered x)) [])) ∙ sym (λ t. cond (e t) zero_or_more (passes_in (values_at numbered []) x)))
      (λ (e : mentions_variable (counts_parts x) ≡ false).
      (λ t. cond ((counts_variable numbered x ∙ e) t) zero_or_more (counts_in (repeat_terms (counts_tree numbered x)) []))
      ∙ counts_answers [] [] no_values x (none_wide numbered widest [] (terms_of (counts_parts x)) e) (none_known numbered 0 (terms_of (counts_parts x)) e) c
      ∙ sym (λ t. cond (e t) zero_or_more (passes_in (values_at numbered []) x)))
      (which (mentions_variable (counts_parts x)))
