-- Laws of whole numbers in 64 bits: what is read back, what fits, and when a sum, a difference or a product is in bounds.
-- Assumes nothing.
use Prim.Native.Nat.{ℕ, zero, suc, ◌+◌, ◌*◌, ◌-◌, ◌^◌, ◌≤◌, ◌<◌, ◌/◌}
use mathlib.Core.Path.{◌≡◌, refl, sym, ap, subst, ◌∙◌}
use mathlib.Core.Bool.{Bool, true, false, not, cond}
use native.Mathlib.Omega.{arith}
use native.Mathlib.Nat.{le-div_iff_mul-le, div-lt_iff_lt-mul, mul_comm}
use borrow.Author.Tests.{le-leb, lt-leb, leb-true, leb-false}
use lib.Dec.{T, leb, ltb, leb-suc-zero, leb-zero}
use lib.IntN.{ℤ, pos, negsuc, nat_abs, neg_ℤ, suc_ℤ, sub_ℕ, ◌+ℤ◌, ◌-ℤ◌, ◌*ℤ◌, +ℤ_idr, zero-*ℤ}
use lib.Signed.{mag, non_neg, le_z, lt_z}
use mir.Syntax.{w64}
use mir.Val.{Fits, SFits, to_z, of_z}
use mir.Facts.{to_z-of_z}
use Rattle.term_integers.specs.Wholes.{bounded, equals, same_sign}
use Rattle.std.specs.Prelude.{Some, None}

-- an i64 that is kept and read again is itself
pub back : (z : ℤ) → mag z < 2 ^ 63 → to_z w64 (of_z w64 z) ≡ z
back z h = to_z-of_z {w = w64} (record { sfits = h })

-- two truths that differ are not the same
pub differ : {A : Type 0} → true ≡ false → A
differ e = let z : ◌≡◌ {A = ℕ} 0 1 = cc e in absurd (omega arith)

-- ---- signs

pub below_zero : (z : ℤ) → lt_z z (pos 0) ≡ not (non_neg z)
below_zero (pos n) = leb-suc-zero n
below_zero (negsuc n) = refl

pub zero_at_most : (z : ℤ) → le_z (pos 0) z ≡ non_neg z
zero_at_most (pos n) = leb-zero n
zero_at_most (negsuc n) = refl

pub sign_alike : (a b : ℤ) → not (non_neg a) ≡ true → not (non_neg b) ≡ same_sign a b
unfolding same_sign
sign_alike (pos m) b e = differ (sym e)
sign_alike (negsuc m) (pos n) e = refl
sign_alike (negsuc m) (negsuc n) e = refl

pub positive_alike : (a b : ℤ) → not (non_neg a) ≡ false → non_neg b ≡ same_sign a b
unfolding same_sign
positive_alike (pos m) b e = refl
positive_alike (negsuc m) b e = differ e

-- ---- the number without its sign

pub nat_abs_neg : (z : ℤ) → nat_abs (neg_ℤ z) ≡ nat_abs z
nat_abs_neg (pos zero) = refl
nat_abs_neg (pos (suc n)) = refl
nat_abs_neg (negsuc n) = refl

pub mag_nat_abs : (z : ℤ) → mag z ≤ nat_abs z
mag_nat_abs (pos n) = omega arith
mag_nat_abs (negsuc n) = omega arith

pub fits_bound : (z : ℤ) → nat_abs z ≤ 2 ^ 62 → SFits w64 z
fits_bound z h = record { sfits = omega (arith, mag_nat_abs z) }

pub negative_next : (z : ℤ) → not (non_neg z) ≡ true → mag (suc_ℤ z) ≤ mag z
negative_next (pos n) e = differ (sym e)
negative_next (negsuc zero) e = omega arith
negative_next (negsuc (suc n)) e = omega arith

pub negative_opposite : (z : ℤ) → not (non_neg z) ≡ true → neg_ℤ (suc_ℤ z) ≡ pos (mag z)
negative_opposite (pos n) e = differ (sym e)
negative_opposite (negsuc zero) e = refl
negative_opposite (negsuc (suc n)) e = refl

pub negative_abs : (z : ℤ) → not (non_neg z) ≡ true → mag z + 1 ≡ nat_abs z
negative_abs (pos n) e = differ (sym e)
negative_abs (negsuc n) e = omega arith

pub positive : (z : ℤ) → not (non_neg z) ≡ false → non_neg z ≡ true
positive (pos n) e = refl
positive (negsuc n) e = differ e

pub abs_zero : (z : ℤ) → nat_abs z ≤ 0 → z ≡ pos 0
abs_zero (pos n) h = let e : n ≡ 0 = omega arith in ap pos e
abs_zero (negsuc n) h = absurd (omega arith)

-- ---- sums and differences

mag_cond : (c : Bool) (x y k : ℕ) → x < k → y < k → mag (cond c (negsuc x) (pos y)) < k
mag_cond true x y k p q = p
mag_cond false x y k p q = q

mag_sub : (m n k : ℕ) → m < k → n ≤ k → mag (sub_ℕ m n) < k
mag_sub m n k p q = mag_cond (ltb m n) (n - suc m) (m - n) k (omega arith) (omega arith)

pub sum_alike : (a b : ℤ) → same_sign a b ≡ true → nat_abs (a +ℤ b) ≡ nat_abs a + nat_abs b
unfolding same_sign
sum_alike (pos m) (pos n) e = refl
sum_alike (pos m) (negsuc n) e = differ (sym e)
sum_alike (negsuc m) (pos n) e = differ (sym e)
sum_alike (negsuc m) (negsuc n) e = omega arith

pub sum_unlike : (a b : ℤ) → same_sign a b ≡ false → mag a < 2 ^ 63 → mag b < 2 ^ 63 → SFits w64 (a +ℤ b)
unfolding same_sign
sum_unlike (pos m) (pos n) e p q = differ e
sum_unlike (pos m) (negsuc n) e p q = record { sfits = mag_sub m (suc n) (2 ^ 63) p q }
sum_unlike (negsuc m) (pos n) e p q = record { sfits = mag_sub n (suc m) (2 ^ 63) q p }
sum_unlike (negsuc m) (negsuc n) e p q = differ e

pub difference_alike : (a b : ℤ) → same_sign a b ≡ true → mag a < 2 ^ 63 → mag b < 2 ^ 63 → SFits w64 (a -ℤ b)
unfolding same_sign
difference_alike (pos m) (pos zero) e p q = record { sfits = omega arith }
difference_alike (pos m) (pos (suc n)) e p q = record { sfits = mag_sub m (suc n) (2 ^ 63) p (omega arith) }
difference_alike (pos m) (negsuc n) e p q = differ (sym e)
difference_alike (negsuc m) (pos n) e p q = differ (sym e)
difference_alike (negsuc m) (negsuc n) e p q = record { sfits = mag_cond (ltb (suc n) (suc m)) (suc m - suc (suc n)) (suc n - suc m) (2 ^ 63) (omega arith) (omega arith) }

pub difference_unlike : (a b : ℤ) → same_sign a b ≡ false → nat_abs (a -ℤ b) ≡ nat_abs a + nat_abs b
unfolding same_sign
difference_unlike (pos m) (pos n) e = differ e
difference_unlike (pos m) (negsuc n) e = refl
difference_unlike (negsuc m) (pos zero) e = ap nat_abs (+ℤ_idr (negsuc m)) ∙ omega arith
difference_unlike (negsuc m) (pos (suc n)) e = omega arith
difference_unlike (negsuc m) (negsuc n) e = differ e

-- ---- products

pub abs_product : (a b : ℤ) → nat_abs (a *ℤ b) ≡ nat_abs a * nat_abs b
abs_product (pos m) (pos n) = refl
abs_product (pos m) (negsuc n) = nat_abs_neg (pos (m * suc n))
abs_product (negsuc m) (pos n) = nat_abs_neg (pos (suc m * n))
abs_product (negsuc m) (negsuc n) = refl

pub product_in : (m n l : ℕ) → 0 < m → n ≤ l / m → m * n ≤ l
product_in m n l p h = subst (λ (x : ℕ). x ≤ l) (mul_comm n m) ((le-div_iff_mul-le p).0 h)

pub product_out : (m n l : ℕ) → 0 < m → l / m < n → l < m * n
product_out m n l p h = subst (λ (x : ℕ). l < x) (mul_comm n m) ((div-lt_iff_lt-mul p).0 h)

-- ---- in bounds or not

pub bounded_in : (z : ℤ) → nat_abs z ≤ 2 ^ 62 → bounded z ≡ Some z
unfolding bounded
bounded_in z h = simp (le-leb (nat_abs z) (2 ^ 62) h)

pub bounded_out : (z : ℤ) → 2 ^ 62 < nat_abs z → bounded z ≡ None
unfolding bounded
bounded_out z h = simp (lt-leb (nat_abs z) (2 ^ 62) h)

pub positive_fits : (z : ℤ) → non_neg z ≡ true → SFits w64 z → T (non_neg z) × Fits w64 (nat_abs z)
positive_fits (pos n) e h = (tt, record { fits = omega (arith, h.sfits) })
positive_fits (negsuc n) e h = differ (sym e)

-- ---- a callee's answer, about the numbers that it was handed

pub read₁ : {A : Type 0} (f : ℤ → A) (a : ℤ) {r : A} → mag a < 2 ^ 63 → r ≡ f (to_z w64 (of_z w64 a)) → r ≡ f a
read₁ f a p e = e ∙ ap f (back a p)

pub read₂ : {A : Type 0} (f : ℤ → ℤ → A) (a b : ℤ) {r : A} → mag a < 2 ^ 63 → mag b < 2 ^ 63 → r ≡ f (to_z w64 (of_z w64 a)) (to_z w64 (of_z w64 b)) → r ≡ f a b
read₂ f a b p q e = e ∙ ap (λ (z : ℤ). f z (to_z w64 (of_z w64 b))) (back a p) ∙ ap (f a) (back b q)

-- the whole of two parts is in bounds where the parts together are
pub whole_in : (a b z : ℤ) → nat_abs z ≡ nat_abs a + nat_abs b → leb (nat_abs a + nat_abs b) (2 ^ 62) ≡ true → nat_abs z ≤ 2 ^ 62
whole_in a b z e t = omega (arith, e, leb-true (nat_abs a + nat_abs b) (2 ^ 62) t)

pub whole_out : (a b z : ℤ) → nat_abs z ≡ nat_abs a + nat_abs b → leb (nat_abs a + nat_abs b) (2 ^ 62) ≡ false → 2 ^ 62 < nat_abs z
whole_out a b z e t = omega (arith, e, leb-false (nat_abs a + nat_abs b) (2 ^ 62) t)

-- ---- tests

pub leb_shift : (m n l : ℕ) → m ≤ l → leb n (l - m) ≡ leb (m + n) l
leb_shift m n l h = go (leb n (l - m)) refl
  where
    go : (t : Bool) → leb n (l - m) ≡ t → leb n (l - m) ≡ leb (m + n) l
    go true e = e ∙ sym (le-leb (m + n) l (omega (arith, leb-true n (l - m) e)))
    go false e = e ∙ sym (lt-leb (m + n) l (omega (arith, leb-false n (l - m) e)))

pub equals_if : (a b : ℤ) → le_z a b ≡ true → le_z b a ≡ equals a b
unfolding equals
equals_if a b e = rw e

pub equals_not : (a b : ℤ) → le_z a b ≡ false → false ≡ equals a b
unfolding equals
equals_not a b e = rw e

pub product_zero : (a b : ℤ) → nat_abs a ≤ 0 → bounded (a *ℤ b) ≡ Some (pos 0)
product_zero a b h = ap (λ (z : ℤ). bounded (z *ℤ b)) (abs_zero a h) ∙ ap bounded (zero-*ℤ b) ∙ bounded_in (pos 0) (omega arith)
