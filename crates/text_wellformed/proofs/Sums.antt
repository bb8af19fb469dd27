-- Sums over stretches of nodes.
-- Assumes nothing.
use Prim.Native.Nat.{ℕ, zero, suc, ◌+◌, ◌-◌, ◌≤◌, ◌<◌}
use mathlib.Core.Path.{◌≡◌, refl, sym, ap, ◌∙◌}
use mathlib.Core.Logic.{◌⊎◌, inl, inr, ⊎_elim}
use native.Mathlib.Omega.{arith}
use borrow.Author.Tests.{ltb-true, ltb-false}
use lib.Dec.{ltb}
use Rattle.basis.proofs.Booleans.{which}
use Rattle.text_encoding.specs.Lists.{sum}

-- before a place, or not
pub side : (j m : ℕ) → (j < m) ⊎ (m ≤ j)
side j m = ⊎_elim (λ e. inl (ltb-true j m e)) (λ e. inr (ltb-false j m e)) (which (ltb j m))

-- the numbers from i up to e
abbrev pub total : (ℕ → ℕ) → ℕ → ℕ → ℕ
total f i e = sum (e - i) i f

sum_join : (f : ℕ → ℕ) (m n i : ℕ) → sum (m + n) i f ≡ sum m i f + sum n (i + m) f
unfolding sum
sum_join f zero n i =
    let a : 0 + n ≡ n = omega arith in
    let b : i + 0 ≡ i = omega arith in
    rw (a, b) (omega arith)
sum_join f (suc m) n i =
    let a : suc m + n ≡ suc (m + n) = omega arith in
    let b : i + suc m ≡ i + 1 + m = omega arith in
    rw (a, b) (omega (arith, sum_join f m n (i + 1)))

module _ (f : ℕ → ℕ) where
  pub total_join : (i m e : ℕ) → i ≤ m → m ≤ e → total f i e ≡ total f i m + total f m e
  total_join i m e h k =
      let a : e - i ≡ (m - i) + (e - m) = omega arith in
      let b : i + (m - i) ≡ m = omega arith in
      ap (λ (n : ℕ). sum n i f) a ∙ sum_join f (m - i) (e - m) i ∙ ap (λ (j : ℕ). sum (m - i) i f + sum (e - m) j f) b

  pub total_none : (i : ℕ) → total f i i ≡ 0
  unfolding sum
  total_none i = let a : i - i ≡ 0 = omega arith in rw a

  pub total_one : (i e : ℕ) → e ≡ i + 1 → total f i e ≡ f i
  unfolding sum
  total_one i e h = let a : e - i ≡ suc zero = omega arith in rw a (omega arith)

  pub total_step : (i j e : ℕ) → j ≡ i + 1 → i < e → total f i e ≡ f i + total f j e
  unfolding sum
  total_step i j e z h = let a : e - i ≡ suc (e - (i + 1)) = omega arith in rw (z, a)

  pub sum_zero : sum 0 0 f ≡ 0
  unfolding sum
  sum_zero = refl

  -- from 0 on, the last apart
  pub total_last : (i : ℕ) → sum (i + 1) 0 f ≡ sum i 0 f + f i
  total_last i =
      let a : total f 0 (i + 1) ≡ total f 0 i + total f i (i + 1) = total_join 0 i (i + 1) (omega arith) (omega arith) in
      let b : (i + 1) - 0 ≡ i + 1 = omega arith in
      let c : i - 0 ≡ i = omega arith in
      let d : total f i (i + 1) ≡ f i = total_one i (i + 1) refl in
      sym (ap (λ (n : ℕ). sum n 0 f) b) ∙ a ∙ ap (λ (n : ℕ). sum n 0 f + total f i (i + 1)) c ∙ ap (λ (n : ℕ). sum i 0 f + n) d

  -- a sum grows
  pub sum_below : (i e : ℕ) → i ≤ e → sum i 0 f ≤ sum e 0 f
  sum_below i e h =
      let a : sum e 0 f ≡ sum (i + (e - i)) 0 f = ap (λ (n : ℕ). sum n 0 f) (omega arith) in
      omega (arith, a, sum_join f i (e - i) 0)
