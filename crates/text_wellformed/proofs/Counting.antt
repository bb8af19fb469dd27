-- The least, the first and one of many numbers.
-- Assumes nothing.
use Prim.Native.Nat.{ℕ, zero, suc, ◌+◌, ◌-◌, ◌≤◌, ◌<◌}
use mathlib.Core.Path.{◌≡◌, sym, subst, ◌∙◌}
use mathlib.Core.Logic.{◌⊎◌, inl, inr, ⊎_elim}
use mathlib.Core.Bool.{Bool, true, false}
use native.Mathlib.Omega.{arith}
use native.Mathlib.Decide.{dec_le}
use native.Mathlib.Nat.{lt_of_not-le}
use Rattle.basis.proofs.Booleans.{which}
use Rattle.text_names.specs.Counting.{nowhere, least_of, any_of}
use Rattle.text_encoding.specs.Lists.{first_of}

pub here_or_after : {i j : ℕ} → i ≤ j → (i ≡ j) ⊎ (i + 1 ≤ j)
here_or_after {i} {j} h = go (dec_le j i)
  where
    go : Dec (j ≤ i) → (i ≡ j) ⊎ (i + 1 ≤ j)
    go (yes k) = inl (omega arith)
    go (no k) = inr (omega (arith, lt_of_not-le k))

-- ---- the least of places that is nowhere

pub least_all : (n i : ℕ) (f : ℕ → ℕ) → nowhere ≤ least_of n i f → (j : ℕ) → i ≤ j → j < i + n → nowhere ≤ f j
unfolding least_of
least_all zero i f h j a b = absurd (omega arith)
least_all (suc n) i f h j a b =
    ⊎_elim (λ (e : i ≡ j). subst (λ (q : ℕ). nowhere ≤ f q) e (omega arith)) (λ (l : i + 1 ≤ j). least_all n (i + 1) f (omega arith) j l (omega arith)) (here_or_after a)

-- ---- the first that passes a test

first_hit : (n i : ℕ) (f : ℕ → Bool) → f i ≡ true → first_of (suc n) i f ≡ i
unfolding first_of
first_hit n i f e = rw (e, first_of)

first_miss : (n i : ℕ) (f : ℕ → Bool) → f i ≡ false → first_of (suc n) i f ≡ first_of n (i + 1) f
unfolding first_of
first_miss n i f e = rw (e, first_of)

any_rest : (n i : ℕ) (f : ℕ → Bool) → f i ≡ false → any_of (suc n) i f ≡ any_of n (i + 1) f
unfolding any_of
any_rest n i f e = rw (e, any_of)

any_hit : (n i : ℕ) (f : ℕ → Bool) → f i ≡ true → any_of (suc n) i f ≡ f i
unfolding any_of
any_hit n i f e = rw (e, any_of)

any_none : {A : Type 0} (i : ℕ) (f : ℕ → Bool) → any_of 0 i f ≡ true → A
unfolding any_of
any_none i f e = let z : ◌≡◌ {A = ℕ} 0 1 = cc in absurd (omega arith)

pub record Found (n i : ℕ) (f : ℕ → Bool) (j : ℕ) : Type 0 where
  pub from : i ≤ j
  pub below : j < i + n
  pub passes : f j ≡ true

pub found : (n i : ℕ) (f : ℕ → Bool) → any_of n i f ≡ true → Found n i f (first_of n i f)
found zero i f e = any_none i f e
found (suc n) i f e =
    ⊎_elim (λ (t : f i ≡ true). rw (first_hit n i f t) (record { from = omega arith; below = omega arith; passes = t }))
    (λ (t : f i ≡ false).
    let h : Found n (i + 1) f (first_of n (i + 1) f) = found n (i + 1) f (sym (any_rest n i f t) ∙ e)
    in rw (first_miss n i f t) (record { from = omega (arith, h.from); below = omega (arith, h.below); passes = h.passes }))
    (which (f i))

-- ---- a test that none passes

pub any_all : (n i : ℕ) (f : ℕ → Bool) → any_of n i f ≡ false → (j : ℕ) → i ≤ j → j < i + n → f j ≡ false
any_all zero i f e j a b = absurd (omega arith)
any_all (suc n) i f e j a b =
    let t : f i ≡ false = ⊎_elim (λ (t : f i ≡ true). sym (any_hit n i f t) ∙ e) (λ t. t) (which (f i))
    in ⊎_elim (λ (z : i ≡ j). subst (λ (q : ℕ). f q ≡ false) z t) (λ (l : i + 1 ≤ j). any_all n (i + 1) f (sym (any_rest n i f t) ∙ e) j l (omega arith)) (here_or_after a)
