-- A term of a list that comes to an answer is one of those named: no word of it is without meaning.
-- Assumes nothing.
use Prim.Native.Nat.{ℕ, zero, suc, ◌+◌, ◌-◌, ◌≤◌, ◌<◌}
use mathlib.Core.Path.{◌≡◌, refl, subst}
use mathlib.Core.Logic.{◌⊎◌, inl, inr}
use mathlib.Core.List.{List}
use native.Mathlib.Omega.{arith}
use native.Mathlib.Decide.{dec_lt, ℕ_discrete}
use borrow.Author.Tests.{lt-ltb}
use lib.IntN.{ℤ, pos}
use Rattle.term_words.specs.Words.{term_at, terms}
use Rattle.term_words.specs.Steps.{operate_of, after_of, operated, step_of}
use Rattle.term_words.specs.declared.Kind.{Kind}
use Rattle.term_words.specs.declared.Mode.{Mode}
use Rattle.term_words.specs.declared.Numbers.{Numbers}
use Rattle.term_words.specs.declared.Operation.{Operation}
use Rattle.term_words.specs.declared.Term.{Term}
use Rattle.term_evaluation.specs.Meaning.{next, run}
use Rattle.term_evaluation.specs.Counts.{form_of, calculations_end, of_trial, tallied}
use Rattle.term_evaluation.specs.declared.Form.{Form}
use Rattle.term_evaluation.specs.declared.Ended.{Ended}
use Rattle.term_evaluation.proofs.Runs.{goes}
use Rattle.term_sizes.specs.Sizes.{judged, of_counted, sizes, count_sizes}
use Rattle.table_structure.proofs.Facts.{lt_of_ne}
use Rattle.term_words.proofs.KnownTerms.{KnownOperation, KnownTerm}
use Rattle.std.specs.Prelude.{Result, Ok, Err}
use Rattle.term_words.specs.declared.TermError.{TermError}

abbrev Runs : Result (Numbers × ℕ) TermError → Type 0
Runs (Ok (s, t)) = Unit {0}
Runs (Err TermError.Malformed) = ⊥
Runs (Err TermError.Overflow) = ⊥

-- ---- a step

part_known : (m : Mode) (env : List ℤ) (o : Operation) (s : Numbers) (t : ℕ) → Runs (after_of (operate_of m env o s) t) → KnownOperation o
part_known m env (Operation.Number n) s t h = tt
part_known m env (Operation.Variable k) s t h = tt
part_known m env Operation.Add s t h = tt
part_known m env Operation.Subtract s t h = tt
part_known m env Operation.Multiply s t h = tt
part_known m env Operation.Negate s t h = tt
part_known m env Operation.Unknown s t h = h

single_known : (m : Mode) (env : List ℤ) (v : ℤ) (o : Operation) (s : Numbers) (t : ℕ) → Runs (operated v (operate_of m env o s) t) → KnownOperation o
single_known m env v (Operation.Number n) s t h = tt
single_known m env v (Operation.Variable k) s t h = tt
single_known m env v Operation.Add s t h = tt
single_known m env v Operation.Subtract s t h = tt
single_known m env v Operation.Multiply s t h = tt
single_known m env v Operation.Negate s t h = tt
single_known m env v Operation.Unknown s t h = h

step_known : (k : Kind) (m : Mode) (env : List ℤ) (v : ℤ) (x : Term) (s : Numbers) (t : ℕ) → Runs (step_of k m env v x s t) → KnownTerm x
step_known Kind.Calculation m env v (Term.Part o) s t h = part_known m env o s t h
step_known Kind.Set m env v (Term.Part o) s t h = part_known m env o s t h
step_known Kind.Condition m env v (Term.Part o) s t h = part_known m env o s t h
step_known Kind.Calculation m env v (Term.Single o) s t h = absurd h
step_known Kind.Set m env v (Term.Single o) s t h = single_known m env v o s t h
step_known Kind.Condition m env v (Term.Single o) s t h = absurd h
step_known k m env v Term.All s t h = tt
step_known k m env v Term.Range s t h = tt
step_known k m env v Term.From s t h = tt
step_known k m env v Term.UpTo s t h = tt
step_known k m env v Term.Or s t h = tt
step_known k m env v Term.Except s t h = tt
step_known k m env v Term.And s t h = tt
step_known k m env v (Term.Compare c) s t h = tt
step_known Kind.Calculation m env v Term.Bad s t h = h
step_known Kind.Set m env v Term.Bad s t h = h
step_known Kind.Condition m env v Term.Bad s t h = h

-- ---- a run

module _ (k : Kind) (m : Mode) (env : List ℤ) (v : ℤ) (ws : List ℕ) (end : ℕ) where
  abbrev Ran : ℕ → Numbers → ℕ → Type 0
  Ran i s t = Runs (run k m env v i (terms ws i end) s t).trial

  -- the first of the rest, and those after it
  split : (i j : ℕ) (s : Numbers) (t : ℕ) (r : Result (Numbers × ℕ) TermError) → step_of k m env v (term_at ws i) s t ≡ r
      → Runs (next (λ (s' : Numbers) (t' : ℕ). run k m env v (i + 1) (terms ws (i + 1) end) s' t') i r).trial
      → ((s' : Numbers) (t' : ℕ) → Ran (i + 1) s' t' → i + 1 ≤ j → KnownTerm (term_at ws j)) → i ≤ j → KnownTerm (term_at ws j)
  split i j s t (Ok (s', t')) e h on low =
      elim (ℕ_discrete i j) [
        | yes q ↦ subst (λ (n : ℕ). KnownTerm (term_at ws n)) q (step_known k m env v (term_at ws i) s t (rw e tt))
        | no q ↦ on s' t' h (lt_of_ne i j low q)
      ]
  split i j s t (Err TermError.Malformed) e h on low = absurd h
  split i j s t (Err TermError.Overflow) e h on low = absurd h

  run_known : (n i j : ℕ) (s : Numbers) (t : ℕ) → end ≤ i + n → Ran i s t → i ≤ j → j < end → KnownTerm (term_at ws j)
  run_known zero i j s t e h low high = absurd (omega arith)
  run_known (suc n) i j s t e h low high =
      let r : Result (Numbers × ℕ) TermError = step_of k m env v (term_at ws i) s t in
      split i j s t r refl (subst (λ (x : Ended). Runs x.trial) (goes k m env v ws i end s t (omega arith) r refl) h)
      (λ s' t' h' low'. run_known n (i + 1) j s' t' (omega arith) h' low' high) low

-- ---- lists that pass

judged_runs : (k : Kind) (r : Result (Numbers × ℕ) TermError) (at : ℕ) → judged k r at ≡ Ok tt → Runs r
judged_runs k (Ok (s, t)) at e = tt
judged_runs Kind.Calculation (Err TermError.Malformed) at e = let z : ◌≡◌ {A = ℕ} 0 1 = cc in absurd (omega arith)
judged_runs Kind.Set (Err TermError.Malformed) at e = let z : ◌≡◌ {A = ℕ} 0 1 = cc in absurd (omega arith)
judged_runs Kind.Condition (Err TermError.Malformed) at e = let z : ◌≡◌ {A = ℕ} 0 1 = cc in absurd (omega arith)
judged_runs Kind.Calculation (Err TermError.Overflow) at e = let z : ◌≡◌ {A = ℕ} 0 1 = cc in absurd (omega arith)
judged_runs Kind.Set (Err TermError.Overflow) at e = let z : ◌≡◌ {A = ℕ} 0 1 = cc in absurd (omega arith)
judged_runs Kind.Condition (Err TermError.Overflow) at e = let z : ◌≡◌ {A = ℕ} 0 1 = cc in absurd (omega arith)

pub list_known : (k : Kind) (widest : List ℤ) (ws : List ℕ) (start end : ℕ) → sizes k widest start (terms ws start end) ≡ Ok tt → (j : ℕ) → start ≤ j → j < end → KnownTerm (term_at ws j)
unfolding sizes
list_known k widest ws start end e j low high =
    let r = run k Mode.Sizes widest (pos 0) start (terms ws start end) Numbers.Zero 1 in
    run_known k Mode.Sizes widest (pos 0) ws end (end - start) start j Numbers.Zero 1 (omega arith) (judged_runs k r.trial r.at e) low high

counted_runs : (f : Form) (r : Result (Numbers × ℕ) TermError) (at : ℕ) → of_counted (of_trial f r) at ≡ Ok tt → Runs r
counted_runs f (Ok (s, t)) at e = tt
counted_runs f (Err TermError.Malformed) at e = let z : ◌≡◌ {A = ℕ} 0 1 = cc in absurd (omega arith)
counted_runs f (Err TermError.Overflow) at e = let z : ◌≡◌ {A = ℕ} 0 1 = cc in absurd (omega arith)

-- the calculations of counts go up to their end, or up to a last term that is known
abbrev LastKnown : Form → ℕ → ℕ → Term → Type 0
LastKnown f last end x = (calculations_end f last end ≡ end) ⊎ ((calculations_end f last end ≡ last) × KnownTerm x)

last_known : (x : Term) (last end : ℕ) → LastKnown (form_of x) last end x
last_known Term.Range last end = inr (refl, tt)
last_known Term.From last end = inr (refl, tt)
last_known Term.UpTo last end = inr (refl, tt)
last_known (Term.Part o) last end = inl refl
last_known (Term.Single o) last end = inl refl
last_known Term.All last end = inl refl
last_known Term.Or last end = inl refl
last_known Term.Except last end = inl refl
last_known Term.And last end = inl refl
last_known (Term.Compare k) last end = inl refl
last_known Term.Bad last end = inl refl

pub counts_known : (widest : List ℤ) (ws : List ℕ) (start end : ℕ) → start < end → count_sizes widest ws start end ≡ Ok tt → (j : ℕ) → start ≤ j → j < end → KnownTerm (term_at ws j)
unfolding count_sizes tallied
counts_known widest ws start end some e j low high =
    let f : Form = form_of (term_at ws (end - 1)) in
    let upto : ℕ = calculations_end f (end - 1) end in
    let r = run Kind.Calculation Mode.Sizes widest (pos 0) start (terms ws start upto) Numbers.Zero 1 in
    let ran : Runs r.trial = counted_runs f r.trial r.at (rw (lt-ltb start end some) at e) in
    let known : j < upto → KnownTerm (term_at ws j) = λ h. run_known Kind.Calculation Mode.Sizes widest (pos 0) ws upto (upto - start) start j Numbers.Zero 1 (omega arith) ran low h in
    by_last (last_known (term_at ws (end - 1)) (end - 1) end) known
  where
    by_last : LastKnown (form_of (term_at ws (end - 1))) (end - 1) end (term_at ws (end - 1)) → (j < calculations_end (form_of (term_at ws (end - 1))) (end - 1) end → KnownTerm (term_at ws j)) → KnownTerm (term_at ws j)
    by_last (inl q) known = known (omega arith)
    by_last (inr (q, last)) known =
        elim (dec_lt j (end - 1)) [
          | yes h ↦ known (omega arith)
          | no h ↦ subst (λ (n : ℕ). KnownTerm (term_at ws n)) (let z : end - 1 ≡ j = omega arith in z) last
        ]
