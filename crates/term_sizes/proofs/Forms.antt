-- Whether a list is malformed does not depend on the variables' sizes, up to where the larger sizes leave 2^62: so a list that is formed at
-- small sizes and stays within 2^62 at large ones passes there.
-- Assumes nothing.
use Prim.Native.Nat.{ℕ, ◌-◌, ◌≤◌, ◌<◌}
use mathlib.Core.Path.{◌≡◌, refl, sym, ap, ◌∙◌}
use mathlib.Core.Bool.{Bool, true, false, cond}
use mathlib.Core.Logic.{inl, inr}
use mathlib.Core.List.{List}
use native.Mathlib.Omega.{arith}
use borrow.Author.Tests.{eqb-true}
use lib.Dec.{eqb, ltb}
use lib.IntN.{ℤ, pos}
use Rattle.basis.specs.Counts.{Counts, exactly, at_least, span}
use Rattle.term_words.specs.Words.{term_at, terms}
use Rattle.term_evaluation.specs.Meaning.{run, alone_of, number_of, last_of, verdict_of}
use Rattle.term_evaluation.specs.Counts.{shown, form_of, calculations_end, of_one, of_two, of_numbers, of_trial, tallied_by, tallied}
use Rattle.term_evaluation.specs.declared.Form.{Form}
use Rattle.term_evaluation.specs.declared.Tally.{Tally}
use Rattle.term_words.specs.declared.Kind.{Kind}
use Rattle.term_words.specs.declared.Mode.{Mode}
use Rattle.term_words.specs.declared.Numbers.{Numbers}
use Rattle.term_words.specs.declared.Term.{Term}
use Rattle.term_sizes.specs.Sizes.{of_calculated, of_tested, of_counted, of_tally, judged, sizes, count_sizes}
use Rattle.term_sizes.specs.Inside.{Inside}
use Rattle.term_sizes.proofs.Bounds.{Smaller, none, one, two, three, four}
use Rattle.term_sizes.proofs.Depths.{SameDepth, depth_none, depth_below, depth_swap, depth_past}
use Rattle.term_sizes.proofs.Passing.{Follows, run_follows}
use Rattle.term_sizes.proofs.Theorems.{Answered, two_or_three}
use Rattle.std.specs.Prelude.{Result, Ok, Err, ⊤}
use Rattle.term_words.specs.declared.TermError.{TermError}
use Rattle.term_sizes.specs.declared.SizeError.{SizeError}

passes_not : {A : Type 0} → ◌≡◌ {A = Result ⊤ SizeError} (Ok tt) (Err SizeError.Malformed) → A
passes_not e = let z : ◌≡◌ {A = ℕ} 0 1 = cc e in absurd (omega arith)

exceeds_not : {A : Type 0} {at : ℕ} → ◌≡◌ {A = Result ⊤ SizeError} (Err (SizeError.Exceeds at)) (Err SizeError.Malformed) → A
exceeds_not e = let z : ◌≡◌ {A = ℕ} 0 1 = cc e in absurd (omega arith)

-- ---- the ends of two lists that follow each other: where the second is malformed so is the first

alone_formed : {s s' : Numbers} (at at' : ℕ) → Smaller s s' → of_calculated (alone_of s') at' ≡ Err SizeError.Malformed → of_calculated (alone_of s) at ≡ Err SizeError.Malformed
alone_formed at at' none e = refl
alone_formed at at' (one p) e = passes_not e
alone_formed at at' (two p q) e = refl
alone_formed at at' (three p q r) e = refl
alone_formed at at' (four p q r u) e = refl

number_formed : (x x' : Result (Numbers × ℕ) TermError) (at at' : ℕ) → Follows x x' → of_calculated (number_of x') at' ≡ Err SizeError.Malformed → of_calculated (number_of x) at ≡ Err SizeError.Malformed
number_formed x (Ok (s', t')) at at' f e = rw f.2 (alone_formed at at' f.3 e)
number_formed x (Err TermError.Malformed) at at' f e = rw f refl
number_formed x (Err TermError.Overflow) at at' f e = exceeds_not e

-- one test is left, or it is malformed
test_formed : (t t' at at' : ℕ) → SameDepth t t' → of_tested (last_of Numbers.Zero t') at' ≡ Err SizeError.Malformed → of_tested (last_of Numbers.Zero t) at ≡ Err SizeError.Malformed
test_formed t t' at at' d e = go (eqb t 2) (eqb t 3) refl refl
  where
    answered : {A : Type 0} → Answered (last_of Numbers.Zero t') → A
    answered (inl y) = passes_not (sym (ap (λ (x : Result Bool TermError). of_tested x at') y) ∙ e)
    answered (inr y) = passes_not (sym (ap (λ (x : Result Bool TermError). of_tested x at') y) ∙ e)

    -- the other has one too
    one_test : {A : Type 0} → 2 ≤ t → t < 4 → A
    one_test p q = answered (two_or_three t' (depth_past 1 t' t (depth_swap d) p) (depth_below 2 t' t (depth_swap d) q))

    go : (x y : Bool) → eqb t 2 ≡ x → eqb t 3 ≡ y → of_tested (cond x (Ok false) (cond y (Ok true) (Err TermError.Malformed))) at ≡ Err SizeError.Malformed
    go true y p q = let k : t ≡ 2 = eqb-true t 2 p in one_test (omega arith) (omega arith)
    go false true p q = let k : t ≡ 3 = eqb-true t 3 q in one_test (omega arith) (omega arith)
    go false false p q = refl

last_formed : {s s' : Numbers} (t t' at at' : ℕ) → Smaller s s' → SameDepth t t' → of_tested (last_of s' t') at' ≡ Err SizeError.Malformed → of_tested (last_of s t) at ≡ Err SizeError.Malformed
last_formed t t' at at' none d e = test_formed t t' at at' d e
last_formed t t' at at' (one p) d e = refl
last_formed t t' at at' (two p q) d e = refl
last_formed t t' at at' (three p q r) d e = refl
last_formed t t' at at' (four p q r u) d e = refl

verdict_formed : (x x' : Result (Numbers × ℕ) TermError) (at at' : ℕ) → Follows x x' → of_tested (verdict_of x') at' ≡ Err SizeError.Malformed → of_tested (verdict_of x) at ≡ Err SizeError.Malformed
verdict_formed x (Ok (s', t')) at at' f e = rw f.2 (last_formed f.1 t' at at' f.3 f.4 e)
verdict_formed x (Err TermError.Malformed) at at' f e = rw f refl
verdict_formed x (Err TermError.Overflow) at at' f e = exceeds_not e

judged_formed : (k : Kind) (x x' : Result (Numbers × ℕ) TermError) (at at' : ℕ) → Follows x x' → judged k x' at' ≡ Err SizeError.Malformed → judged k x at ≡ Err SizeError.Malformed
judged_formed Kind.Calculation x x' at at' f e = number_formed x x' at at' f e
judged_formed Kind.Set x x' at at' f e = verdict_formed x x' at at' f e
judged_formed Kind.Condition x x' at at' f e = verdict_formed x x' at at' f e

-- ---- counts

shown_passes : {A : Type 0} (c : Counts) (at : ℕ) → of_counted (shown c) at ≡ Err SizeError.Malformed → A
shown_passes Counts.none at e = passes_not e
shown_passes (Counts.from low) at e = passes_not e
shown_passes (Counts.within low more) at e = passes_not e

one_formed : (f : Form) (a a' : ℤ) (at at' : ℕ) → of_counted (of_one f a') at' ≡ Err SizeError.Malformed → of_counted (of_one f a) at ≡ Err SizeError.Malformed
one_formed Form.Exact a a' at at' e = shown_passes (exactly a') at' e
one_formed Form.Open a a' at at' e = shown_passes (at_least a') at' e
one_formed Form.UpTo a a' at at' e = shown_passes (span (pos 0) a') at' e
one_formed Form.Closed a a' at at' e = refl

two_formed : (f : Form) (a a' b b' : ℤ) (at at' : ℕ) → of_counted (of_two f a' b') at' ≡ Err SizeError.Malformed → of_counted (of_two f a b) at ≡ Err SizeError.Malformed
two_formed Form.Exact a a' b b' at at' e = refl
two_formed Form.Open a a' b b' at at' e = refl
two_formed Form.UpTo a a' b b' at at' e = refl
two_formed Form.Closed a a' b b' at at' e = shown_passes (span a' b') at' e

numbers_formed : (f : Form) {s s' : Numbers} (at at' : ℕ) → Smaller s s' → of_counted (of_numbers f s') at' ≡ Err SizeError.Malformed → of_counted (of_numbers f s) at ≡ Err SizeError.Malformed
numbers_formed f at at' none e = refl
numbers_formed f at at' (one {a} {a'} p) e = one_formed f a a' at at' e
numbers_formed f at at' (two {a} {a'} {b} {b'} p q) e = two_formed f a a' b b' at at' e
numbers_formed f at at' (three p q r) e = refl
numbers_formed f at at' (four p q r u) e = refl

trial_formed : (f : Form) (x x' : Result (Numbers × ℕ) TermError) (at at' : ℕ) → Follows x x' → of_counted (of_trial f x') at' ≡ Err SizeError.Malformed → of_counted (of_trial f x) at ≡ Err SizeError.Malformed
trial_formed f x (Ok (s', t')) at at' g e = rw g.2 (numbers_formed f at at' g.3 e)
trial_formed f x (Err TermError.Malformed) at at' g e = rw g refl
trial_formed f x (Err TermError.Overflow) at at' g e = exceeds_not e

-- ---- the theorems

-- neither malformed nor past 2^62
passing : (y : Result ⊤ SizeError) → (y ≡ Err SizeError.Malformed → ⊥) → ((at : ℕ) → y ≡ Err (SizeError.Exceeds at) → ⊥) → y ≡ Ok tt
passing (Ok u) m e = refl
passing (Err SizeError.Malformed) m e = absurd (m refl)
passing (Err (SizeError.Exceeds at)) m e = absurd (e at refl)

module _ (small large : List ℤ) (inside : Inside small large) where
  list_formed : (k : Kind) (i : ℕ) (xs : List Term) → sizes k large i xs ≡ Err SizeError.Malformed → sizes k small i xs ≡ Err SizeError.Malformed
  unfolding sizes
  list_formed k i xs e =
      let x = run k Mode.Sizes small (pos 0) i xs Numbers.Zero 1 in
      let y = run k Mode.Sizes large (pos 0) i xs Numbers.Zero 1 in
      judged_formed k x.trial y.trial x.at y.at (run_follows Mode.Sizes small large inside (pos 0) (pos 0) k xs i Numbers.Zero Numbers.Zero 1 1 none depth_none) e

  pub list_passes : (k : Kind) (i : ℕ) (xs : List Term) → (sizes k small i xs ≡ Err SizeError.Malformed → ⊥) → ((at : ℕ) → sizes k large i xs ≡ Err (SizeError.Exceeds at) → ⊥) → sizes k large i xs ≡ Ok tt
  list_passes k i xs m e = passing (sizes k large i xs) (λ z. m (list_formed k i xs z)) e

  counts_formed : (ws : List ℕ) (start end : ℕ) → count_sizes large ws start end ≡ Err SizeError.Malformed → count_sizes small ws start end ≡ Err SizeError.Malformed
  unfolding count_sizes tallied
  counts_formed ws start end e = go (ltb start end) e
    where
      none_at : Tally
      none_at = record { counted = Err TermError.Malformed; at = start }

      form : Form
      form = form_of (term_at ws (end - 1))

      go : (t : Bool) → of_tally (cond t (tallied_by form Mode.Sizes large ws start end) none_at) ≡ Err SizeError.Malformed → of_tally (cond t (tallied_by form Mode.Sizes small ws start end) none_at) ≡ Err SizeError.Malformed
      go true h =
          let xs : List Term = terms ws start (calculations_end form (end - 1) end) in
          let x = run Kind.Calculation Mode.Sizes small (pos 0) start xs Numbers.Zero 1 in
          let y = run Kind.Calculation Mode.Sizes large (pos 0) start xs Numbers.Zero 1 in
          trial_formed form x.trial y.trial x.at y.at (run_follows Mode.Sizes small large inside (pos 0) (pos 0) Kind.Calculation xs start Numbers.Zero Numbers.Zero 1 1 none depth_none) h
      go false h = refl

  pub counts_passes : (ws : List ℕ) (start end : ℕ) → (count_sizes small ws start end ≡ Err SizeError.Malformed → ⊥) → ((at : ℕ) → count_sizes large ws start end ≡ Err (SizeError.Exceeds at) → ⊥) → count_sizes large ws start end ≡ Ok tt
  counts_passes ws start end m e = passing (count_sizes large ws start end) (λ z. m (counts_formed ws start end z)) e
