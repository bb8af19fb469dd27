-- Lists of terms worked out one after the other, and what holds where they come to an end.
-- Assumes nothing.
use Prim.Native.Nat.{ℕ, ◌+◌, ◌*◌, ◌/◌, ◌%◌, ◌^◌}
use mathlib.Core.Path.{◌≡◌, refl, sym, ap, subst, ◌∙◌}
use mathlib.Core.Bool.{Bool, true, false, cond}
use mathlib.Core.List.{List, [], ◌∷◌, ◌++◌}
use native.Mathlib.Omega.{arith}
use borrow.Author.Tests.{leb-true, leb-false}
use lib.Dec.{leb, ltb, eqb}
use lib.IntN.{ℤ, pos, nat_abs}
use lib.ListN.{length, get_or}
use Rattle.basis.specs.Bits.{digit}
use Rattle.basis.proofs.Values.{digit_most}
use Rattle.term_integers.proofs.Laws.{bounded_in, bounded_out}
use Rattle.term_words.specs.Numbers.{bounded, pushed, kept, top_of, pair_of}
use Rattle.term_words.specs.Tests.{noted, joins, combined}
use Rattle.term_words.specs.Steps.{variable_of, step_of}
use Rattle.term_words.specs.declared.Joint.{Joint}
use Rattle.term_words.specs.declared.Kind.{Kind}
use Rattle.term_words.specs.declared.Mode.{Mode}
use Rattle.term_words.specs.declared.Numbers.{Numbers}
use Rattle.term_words.specs.declared.Term.{Term}
use Rattle.term_evaluation.specs.Meaning.{next, run}
use Rattle.term_evaluation.specs.declared.Ended.{Ended}
use Rattle.std.specs.Prelude.{Some, Result, Ok, Err}
use Rattle.term_words.specs.declared.TermError.{TermError}

-- ---- one list after the other

abbrev pub chain : (Numbers → ℕ → Result (Numbers × ℕ) TermError) → Result (Numbers × ℕ) TermError → Result (Numbers × ℕ) TermError
chain go (Ok (s, t)) = go s t
chain go (Err e) = Err e

-- P holds of what waits, if the list came so far
abbrev pub Good : (Numbers → ℕ → Type 0) → Result (Numbers × ℕ) TermError → Type 0
Good P (Ok (s, t)) = P s t
Good P (Err e) = Unit {0}

pub good_chain : (P Q : Numbers → ℕ → Type 0) (go : Numbers → ℕ → Result (Numbers × ℕ) TermError) (r : Result (Numbers × ℕ) TermError) → Good P r → ((s : Numbers) (t : ℕ) → P s t → Good Q (go s t)) → Good Q (chain go r)
good_chain P Q go (Ok (s, t)) p h = h s t p
good_chain P Q go (Err e) p h = tt

chain_chain : (go f g : Numbers → ℕ → Result (Numbers × ℕ) TermError) (r : Result (Numbers × ℕ) TermError) → ((s : Numbers) (t : ℕ) → go s t ≡ chain g (f s t)) → chain go r ≡ chain g (chain f r)
chain_chain go f g (Ok (s, t)) h = h s t
chain_chain go f g (Err e) h = refl

next_chain : (go : Numbers → ℕ → Ended) (f : Numbers → ℕ → Result (Numbers × ℕ) TermError) (i : ℕ) (r : Result (Numbers × ℕ) TermError) → ((s : Numbers) (t : ℕ) → (go s t).trial ≡ f s t) → (next go i r).trial ≡ chain f r
next_chain go f i (Ok (s, t)) h = h s t
next_chain go f i (Err e) h = refl

module _ (k : Kind) (m : Mode) (env : List ℤ) (v : ℤ) where
  unfoldable pub ends : List Term → Numbers → ℕ → Result (Numbers × ℕ) TermError
  ends [] s t = Ok (s, t)
  ends (x ∷ xs) s t = chain (λ s' t'. ends xs s' t') (step_of k m env v x s t)

  pub run_ends : (xs : List Term) (i : ℕ) (s : Numbers) (t : ℕ) → (run k m env v i xs s t).trial ≡ ends xs s t
  unfolding run ends
  run_ends [] i s t = refl
  run_ends (x ∷ xs) i s t = next_chain (λ (s' : Numbers) (t' : ℕ). run k m env v (i + 1) xs s' t') (λ (s' : Numbers) (t' : ℕ). ends xs s' t') i (step_of k m env v x s t) (λ s' t'. run_ends xs (i + 1) s' t')

  pub ends_append : (xs ys : List Term) (s : Numbers) (t : ℕ) → ends (xs ++ ys) s t ≡ chain (λ (s' : Numbers) (t' : ℕ). ends ys s' t') (ends xs s t)
  unfolding ends
  ends_append [] ys s t = refl
  ends_append (x ∷ xs) ys s t = chain_chain (λ (s' : Numbers) (t' : ℕ). ends (xs ++ ys) s' t') (λ (s' : Numbers) (t' : ℕ). ends xs s' t') (λ (s' : Numbers) (t' : ℕ). ends ys s' t') (step_of k m env v x s t) (λ s' t'. ends_append xs ys s' t')

  -- after a list comes another
  pub good_append : (P Q : Numbers → ℕ → Type 0) (xs ys : List Term) (s : Numbers) (t : ℕ) → Good P (ends xs s t) → ((s' : Numbers) (t' : ℕ) → P s' t' → Good Q (ends ys s' t')) → Good Q (ends (xs ++ ys) s t)
  good_append P Q xs ys s t p h = subst (Good Q) (sym (ends_append xs ys s t)) (good_chain P Q (λ (s' : Numbers) (t' : ℕ). ends ys s' t') (ends xs s t) p h)

  -- after a list comes one term
  pub good_last : (P Q : Numbers → ℕ → Type 0) (xs : List Term) (x : Term) (s : Numbers) (t : ℕ) → Good P (ends xs s t) → ((s' : Numbers) (t' : ℕ) → P s' t' → Good Q (step_of k m env v x s' t')) → Good Q (ends (xs ++ (x ∷ [])) s t)
  unfolding ends
  good_last P Q xs x s t p h = good_append P Q xs (x ∷ []) s t p (λ s' t' q. good_chain Q Q (λ (s'' : Numbers) (t'' : ℕ). Ok (s'', t'')) (step_of k m env v x s' t') (h s' t' q) (λ s'' t'' r. r))

-- ---- a number put on the stack, and taken off it

abbrev pub KeptAs : Numbers → ℤ → Result Numbers TermError → Type 0
KeptAs s z (Ok s') = pushed s z ≡ Ok s'
KeptAs s z (Err e) = Unit {0}

pushed_as : (s : Numbers) (z : ℤ) (o : Result Numbers TermError) → pushed s z ≡ o → KeptAs s z o
pushed_as s z (Ok s') e = e
pushed_as s z (Err error) e = tt

pub kept_as : (s : Numbers) (z : ℤ) → KeptAs s z (kept s (bounded z))
kept_as s z = go (leb (nat_abs z) (2 ^ 62)) refl
  where
    go : (b : Bool) → leb (nat_abs z) (2 ^ 62) ≡ b → KeptAs s z (kept s (bounded z))
    go true e = rw (bounded_in z (leb-true (nat_abs z) (2 ^ 62) e)) (pushed_as s z (pushed s z) refl)
    go false e = rw (bounded_out z (leb-false (nat_abs z) (2 ^ 62) e)) tt

pub variable_as : (env : List ℤ) (k : ℕ) (s : Numbers) → KeptAs s (get_or env k (pos 0)) (variable_of env k s)
unfolding variable_of
variable_as env k s = go (ltb k (length env))
  where
    go : (b : Bool) → KeptAs s (get_or env k (pos 0)) (cond b (kept s (bounded (get_or env k (pos 0)))) (Err TermError.Malformed))
    go true = kept_as s (get_or env k (pos 0))
    go false = tt

stack_same : (s s' : Numbers) → ◌≡◌ {A = Result Numbers TermError} (Ok s) (Ok s') → s ≡ s'
stack_same s s' e = cc e

no_room : {A : Type 0} {s : Numbers} → ◌≡◌ {A = Result Numbers TermError} (Err TermError.Malformed) (Ok s) → A
no_room e = let z : ◌≡◌ {A = ℕ} 0 1 = cc e in absurd (omega arith)

pub top_of_lem : (s s' : Numbers) (a : ℤ) → pushed s a ≡ Ok s' → top_of s' ≡ Some (s, a)
top_of_lem Numbers.Zero s' a e = ap top_of (sym (stack_same (Numbers.One a) s' e))
top_of_lem (Numbers.One x) s' a e = ap top_of (sym (stack_same (Numbers.Two x a) s' e))
top_of_lem (Numbers.Two x y) s' a e = ap top_of (sym (stack_same (Numbers.Three x y a) s' e))
top_of_lem (Numbers.Three x y z) s' a e = ap top_of (sym (stack_same (Numbers.Four x y z a) s' e))
top_of_lem (Numbers.Four x y z w) s' a e = no_room e

pub pair_of_lem : (s s' s'' : Numbers) (a b : ℤ) → pushed s a ≡ Ok s' → pushed s' b ≡ Ok s'' → pair_of s'' ≡ Some (s, a, b)
pair_of_lem Numbers.Zero s' s'' a b e f = ap pair_of (sym (stack_same (Numbers.Two a b) s'' (ap (λ (x : Numbers). pushed x b) (stack_same (Numbers.One a) s' e) ∙ f)))
pair_of_lem (Numbers.One x) s' s'' a b e f = ap pair_of (sym (stack_same (Numbers.Three x a b) s'' (ap (λ (y : Numbers). pushed y b) (stack_same (Numbers.Two x a) s' e) ∙ f)))
pair_of_lem (Numbers.Two x y) s' s'' a b e f = ap pair_of (sym (stack_same (Numbers.Four x y a b) s'' (ap (λ (z : Numbers). pushed z b) (stack_same (Numbers.Three x y a) s' e) ∙ f)))
pair_of_lem (Numbers.Three x y z) s' s'' a b e f = no_room (ap (λ (w : Numbers). pushed w b) (stack_same (Numbers.Four x y z a) s' e) ∙ f)
pair_of_lem (Numbers.Four x y z w) s' s'' a b e f = no_room e

-- ---- a test noted, and two joined

abbrev pub Noted : Numbers → ℕ → Bool → Numbers → ℕ → Type 0
Noted s t b s' t' = (s' ≡ s) × (t' ≡ t * 2 + digit b)

pub noted_good : (s : Numbers) (t : ℕ) (b : Bool) → Good (Noted s t b) (noted s t b)
unfolding noted
noted_good s t b = go (ltb t (2 ^ 62))
  where
    go : (x : Bool) → Good (Noted s t b) (cond x (Ok (s, t * 2 + digit b)) (Err TermError.Malformed))
    go true = (refl, refl)
    go false = tt

digit_back : (b : Bool) → eqb (digit b) 1 ≡ b
digit_back true = refl
digit_back false = refl

pub combined_good : (j : Joint) (s : Numbers) (t : ℕ) (x y : Bool) → Good (Noted s t (joins j x y)) (combined j s ((t * 2 + digit x) * 2 + digit y))
unfolding combined
combined_good j s t x y = go (ltb T 4)
  where
    T : ℕ
    T = (t * 2 + digit x) * 2 + digit y

    rest : T / 4 ≡ t
    rest = omega (arith, digit_most x, digit_most y)

    left : T / 2 % 2 ≡ digit x
    left = omega (arith, digit_most x, digit_most y)

    right : T % 2 ≡ digit y
    right = omega (arith, digit_most x, digit_most y)

    test : joins j (eqb (T / 2 % 2) 1) (eqb (T % 2) 1) ≡ joins j x y
    test = ap (λ (n : ℕ). joins j (eqb n 1) (eqb (T % 2) 1)) left ∙ ap (λ (n : ℕ). joins j (eqb (digit x) 1) (eqb n 1)) right ∙ ap (λ (b : Bool). joins j b (eqb (digit y) 1)) (digit_back x) ∙ ap (joins j x) (digit_back y)

    go : (b : Bool) → Good (Noted s t (joins j x y)) (cond b (Err TermError.Malformed) (noted s (T / 4) (joins j (eqb (T / 2 % 2) 1) (eqb (T % 2) 1))))
    go true = tt
    go false = rw (test, rest) (noted_good s t (joins j x y))
