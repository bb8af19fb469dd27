-- The size rule keeps its promise: a list that it passes, at values within the variables' sizes, is worked out to an answer, and never
-- leaves 2^62 on the way.
-- Assumes nothing.
use Prim.Native.Nat.{ℕ, ◌-◌, ◌≤◌, ◌<◌}
use mathlib.Core.Path.{◌≡◌, refl, ap, ◌∙◌}
use mathlib.Core.Bool.{Bool, true, false, cond}
use mathlib.Core.Logic.{◌⊎◌, inl, inr}
use mathlib.Core.List.{List}
use native.Mathlib.Omega.{arith}
use native.Mathlib.Decide.{dec_le}
use native.Mathlib.Nat.{lt_of_not-le}
use borrow.Author.Tests.{eqb-true}
use lib.Dec.{eqb, ltb}
use lib.IntN.{ℤ, pos}
use Rattle.basis.specs.Counts.{Counts, exactly, at_least, span}
use Rattle.term_words.specs.Words.{term_at, terms}
use Rattle.term_evaluation.specs.Meaning.{run, alone_of, number_of, last_of, verdict_of, calculation, membership, condition}
use Rattle.term_evaluation.specs.Counts.{shown, form_of, calculations_end, of_one, of_two, of_numbers, of_trial, tallied_by, tallied, counts}
use Rattle.term_evaluation.specs.declared.Form.{Form}
use Rattle.term_words.specs.declared.Kind.{Kind}
use Rattle.term_words.specs.declared.Mode.{Mode}
use Rattle.term_words.specs.declared.Numbers.{Numbers}
use Rattle.term_words.specs.declared.Term.{Term}
use Rattle.term_evaluation.specs.declared.Tally.{Tally}
use Rattle.term_sizes.specs.Sizes.{of_calculated, of_tested, of_counted, of_tally, sizes, count_sizes}
use Rattle.term_sizes.specs.Inside.{Inside}
use Rattle.term_sizes.proofs.Bounds.{Smaller, none, one, two, three, four}
use Rattle.term_sizes.proofs.Depths.{SameDepth, depth_none, depth_below, depth_swap}
use Rattle.term_sizes.proofs.Passing.{Follows, run_follows}
use Rattle.std.specs.Prelude.{Result, Ok, Err, ⊤}
use Rattle.term_words.specs.declared.TermError.{TermError}
use Rattle.term_sizes.specs.declared.SizeError.{SizeError}

-- ---- the ends of two lists that follow each other

malformed_not : {A : Type 0} → ◌≡◌ {A = Result ⊤ SizeError} (Err SizeError.Malformed) (Ok tt) → A
malformed_not e = let z : ◌≡◌ {A = ℕ} 0 1 = cc e in absurd (omega arith)

exceeds_not : {A : Type 0} {at : ℕ} → ◌≡◌ {A = Result ⊤ SizeError} (Err (SizeError.Exceeds at)) (Ok tt) → A
exceeds_not e = let z : ◌≡◌ {A = ℕ} 0 1 = cc e in absurd (omega arith)

alone_answers : {s s' : Numbers} (at : ℕ) → Smaller s s' → of_calculated (alone_of s') at ≡ Ok tt → (z : ℤ) × (alone_of s ≡ Ok z)
alone_answers at none e = malformed_not e
alone_answers at (one {a} p) e = (a, refl)
alone_answers at (two p q) e = malformed_not e
alone_answers at (three p q r) e = malformed_not e
alone_answers at (four p q r u) e = malformed_not e

number_answers : (x x' : Result (Numbers × ℕ) TermError) (at : ℕ) → Follows x x' → of_calculated (number_of x') at ≡ Ok tt → (z : ℤ) × (number_of x ≡ Ok z)
number_answers x (Ok (s', t')) at f e =
    let a : (z : ℤ) × (alone_of f.0 ≡ Ok z) = alone_answers at f.3 e in
    (a.0, ap number_of f.2 ∙ a.1)
number_answers x (Err TermError.Malformed) at f e = malformed_not e
number_answers x (Err TermError.Overflow) at f e = exceeds_not e

abbrev pub Answered : Result Bool TermError → Type 0
Answered t = (t ≡ Ok false) ⊎ (t ≡ Ok true)

pub two_or_three : (t : ℕ) → 2 ≤ t → t < 4 → Answered (last_of Numbers.Zero t)
two_or_three t p q = go (dec_le t 2)
  where
    go : Dec (t ≤ 2) → Answered (last_of Numbers.Zero t)
    go (yes h) =
        let e : t ≡ 2 = omega arith in
        inl (ap (last_of Numbers.Zero) e)
    go (no h) =
        let l : 2 < t = lt_of_not-le h in
        let e : t ≡ 3 = omega arith in
        inr (ap (last_of Numbers.Zero) e)

ends_in_test : (t at : ℕ) → of_tested (last_of Numbers.Zero t) at ≡ Ok tt → (2 ≤ t) × (t < 4)
ends_in_test t at e = go (eqb t 2) (eqb t 3) refl refl e
  where
    go : (x y : Bool) → eqb t 2 ≡ x → eqb t 3 ≡ y → of_tested (cond x (Ok false) (cond y (Ok true) (Err TermError.Malformed))) at ≡ Ok tt → (2 ≤ t) × (t < 4)
    go true y p q h = let k : t ≡ 2 = eqb-true t 2 p in (omega arith, omega arith)
    go false true p q h = let k : t ≡ 3 = eqb-true t 3 q in (omega arith, omega arith)
    go false false p q h = malformed_not h

last_answers : {s s' : Numbers} (t t' at : ℕ) → Smaller s s' → SameDepth t t' → of_tested (last_of s' t') at ≡ Ok tt → Answered (last_of s t)
last_answers t t' at none d e =
    let p : (2 ≤ t') × (t' < 4) = ends_in_test t' at e in
    two_or_three t (low (dec_le 2 t) p.0) (depth_below 2 t t' d p.1)
  where
    low : Dec (2 ≤ t) → 2 ≤ t' → 2 ≤ t
    low (yes h) q = h
    low (no h) q =
        let r : t' < 2 = depth_below 1 t' t (depth_swap d) (lt_of_not-le h) in
        absurd (omega arith)
last_answers t t' at (one p) d e = malformed_not e
last_answers t t' at (two p q) d e = malformed_not e
last_answers t t' at (three p q r) d e = malformed_not e
last_answers t t' at (four p q r u) d e = malformed_not e

verdict_answers : (x x' : Result (Numbers × ℕ) TermError) (at : ℕ) → Follows x x' → of_tested (verdict_of x') at ≡ Ok tt → Answered (verdict_of x)
verdict_answers x (Ok (s', t')) at f e = rw f.2 (last_answers f.1 t' at f.3 f.4 e)
verdict_answers x (Err TermError.Malformed) at f e = malformed_not e
verdict_answers x (Err TermError.Overflow) at f e = exceeds_not e

one_answers : (f : Form) (a a' : ℤ) (at : ℕ) → of_counted (of_one f a') at ≡ Ok tt → (n : Counts) × (of_one f a ≡ shown n)
one_answers Form.Exact a a' at e = (exactly a, refl)
one_answers Form.Open a a' at e = (at_least a, refl)
one_answers Form.UpTo a a' at e = (span (pos 0) a, refl)
one_answers Form.Closed a a' at e = malformed_not e

two_answers : (f : Form) (a a' b b' : ℤ) (at : ℕ) → of_counted (of_two f a' b') at ≡ Ok tt → (n : Counts) × (of_two f a b ≡ shown n)
two_answers Form.Exact a a' b b' at e = malformed_not e
two_answers Form.Open a a' b b' at e = malformed_not e
two_answers Form.UpTo a a' b b' at e = malformed_not e
two_answers Form.Closed a a' b b' at e = (span a b, refl)

numbers_answer : (f : Form) {s s' : Numbers} (at : ℕ) → Smaller s s' → of_counted (of_numbers f s') at ≡ Ok tt → (n : Counts) × (of_numbers f s ≡ shown n)
numbers_answer f at none e = malformed_not e
numbers_answer f at (one {a} {a'} p) e = one_answers f a a' at e
numbers_answer f at (two {a} {a'} {b} {b'} p q) e = two_answers f a a' b b' at e
numbers_answer f at (three p q r) e = malformed_not e
numbers_answer f at (four p q r u) e = malformed_not e

counts_answer : (f : Form) (x x' : Result (Numbers × ℕ) TermError) (at : ℕ) → Follows x x' → of_counted (of_trial f x') at ≡ Ok tt → (n : Counts) × (of_trial f x ≡ shown n)
counts_answer f x (Ok (s', t')) at g e =
    let a : (n : Counts) × (of_numbers f g.0 ≡ shown n) = numbers_answer f at g.3 e in
    (a.0, ap (of_trial f) g.2 ∙ a.1)
counts_answer f x (Err TermError.Malformed) at g e = malformed_not e
counts_answer f x (Err TermError.Overflow) at g e = exceeds_not e

-- ---- the theorems

module _ (env widest : List ℤ) (inside : Inside env widest) where
  -- a calculation that passes has a value
  pub calculation_passes : (i : ℕ) (xs : List Term) → sizes Kind.Calculation widest i xs ≡ Ok tt → (z : ℤ) × (calculation env i xs ≡ Ok z)
  unfolding calculation sizes
  calculation_passes i xs e =
      number_answers (run Kind.Calculation Mode.Values env (pos 0) i xs Numbers.Zero 1).trial (run Kind.Calculation Mode.Sizes widest (pos 0) i xs Numbers.Zero 1).trial (run Kind.Calculation Mode.Sizes widest (pos 0) i xs Numbers.Zero 1).at (run_follows Mode.Values env widest inside (pos 0) (pos 0) Kind.Calculation xs i Numbers.Zero Numbers.Zero 1 1 none depth_none) e

  -- each value is in a set that passes, or not
  pub set_passes : (v : ℤ) (i : ℕ) (xs : List Term) → sizes Kind.Set widest i xs ≡ Ok tt → (membership env v i xs ≡ Ok false) ⊎ (membership env v i xs ≡ Ok true)
  unfolding membership sizes
  set_passes v i xs e =
      verdict_answers (run Kind.Set Mode.Values env v i xs Numbers.Zero 1).trial (run Kind.Set Mode.Sizes widest (pos 0) i xs Numbers.Zero 1).trial (run Kind.Set Mode.Sizes widest (pos 0) i xs Numbers.Zero 1).at (run_follows Mode.Values env widest inside v (pos 0) Kind.Set xs i Numbers.Zero Numbers.Zero 1 1 none depth_none) e

  -- a condition that passes holds, or not
  pub condition_passes : (i : ℕ) (xs : List Term) → sizes Kind.Condition widest i xs ≡ Ok tt → (condition env i xs ≡ Ok false) ⊎ (condition env i xs ≡ Ok true)
  unfolding condition sizes
  condition_passes i xs e =
      verdict_answers (run Kind.Condition Mode.Values env (pos 0) i xs Numbers.Zero 1).trial (run Kind.Condition Mode.Sizes widest (pos 0) i xs Numbers.Zero 1).trial (run Kind.Condition Mode.Sizes widest (pos 0) i xs Numbers.Zero 1).at (run_follows Mode.Values env widest inside (pos 0) (pos 0) Kind.Condition xs i Numbers.Zero Numbers.Zero 1 1 none depth_none) e

  counts_by : (f : Form) (ws : List ℕ) (start end : ℕ) → of_tally (tallied_by f Mode.Sizes widest ws start end) ≡ Ok tt → (n : Counts) × ((tallied_by f Mode.Values env ws start end).counted ≡ shown n)
  counts_by f ws start end e =
      let xs : List Term = terms ws start (calculations_end f (end - 1) end) in
      counts_answer f (run Kind.Calculation Mode.Values env (pos 0) start xs Numbers.Zero 1).trial (run Kind.Calculation Mode.Sizes widest (pos 0) start xs Numbers.Zero 1).trial (run Kind.Calculation Mode.Sizes widest (pos 0) start xs Numbers.Zero 1).at (run_follows Mode.Values env widest inside (pos 0) (pos 0) Kind.Calculation xs start Numbers.Zero Numbers.Zero 1 1 none depth_none) e

  -- counts that pass are a set of counts
  pub counts_pass : (ws : List ℕ) (start end : ℕ) → count_sizes widest ws start end ≡ Ok tt → (n : Counts) × (counts env ws start end ≡ shown n)
  unfolding counts count_sizes tallied
  counts_pass ws start end e = go (ltb start end) e
    where
      none_at : Tally
      none_at = record { counted = Err TermError.Malformed; at = start }

      go : (t : Bool) → of_tally (cond t (tallied_by (form_of (term_at ws (end - 1))) Mode.Sizes widest ws start end) none_at) ≡ Ok tt → (n : Counts) × ((cond t (tallied_by (form_of (term_at ws (end - 1))) Mode.Values env ws start end) none_at).counted ≡ shown n)
      go true h = counts_by (form_of (term_at ws (end - 1))) ws start end h
      go false h = malformed_not h
