-- Two's complement of 64 bits.
-- Assumes nothing.
use Prim.Native.Nat.{ℕ, zero, suc, ◌+◌, ◌-◌, ◌^◌, ◌≤◌, ◌<◌}
use native.Mathlib.Omega.{arith}
use borrow.Author.Tests.{lt-ltb, le-ltb, ltb-true, ltb-false}
use mathlib.Core.Path.{◌≡◌, refl, sym, ap, ◌∙◌}
use mathlib.Core.Bool.{Bool, true, false, cond, not}
use lib.Dec.{ltb}
use lib.IntN.{ℤ, pos, negsuc, nat_abs, ◌-ℤ◌}
use lib.Signed.{non_neg, mag}
use mir.Syntax.{w64}
use mir.Val.{to_z, of_z}
use Rattle.term_integers.proofs.Laws.{back, differ}
use Rattle.run_saved.specs.Saved.{pattern, whole}

-- -1 - n
pub below : (n : ℕ) → n < 2 ^ 63 → negsuc 0 -ℤ to_z w64 n ≡ negsuc n
below n l = ap (λ (z : ℤ). negsuc 0 -ℤ z) (back (pos n) l) ∙ by n
  where
    by : (n : ℕ) → negsuc 0 -ℤ pos n ≡ negsuc n
    by zero = refl
    by (suc n) = ap negsuc (let z : suc (0 + n) ≡ suc n = omega arith in z)

-- an i64 that a callee hands over
pub read_back : (z w : ℤ) → mag z < 2 ^ 63 → z ≡ w → to_z w64 (of_z w64 z) ≡ w
read_back z w h e = back z h ∙ e

pub whole_low : (n : ℕ) → n < 2 ^ 63 → whole n ≡ pos n
whole_low n l = simp (lt-ltb n (2 ^ 63) l)

pub whole_high : (n : ℕ) → 2 ^ 63 ≤ n → whole n ≡ negsuc (2 ^ 64 - suc n)
whole_high n l = simp (le-ltb n (2 ^ 63) l)

pub pattern_negative : (z : ℤ) → not (non_neg z) ≡ true → pattern z ≡ 2 ^ 64 - nat_abs z
pattern_negative (pos n) e = differ (sym e)
pattern_negative (negsuc n) e = refl

pub negative_some : (z : ℤ) → not (non_neg z) ≡ true → 0 < nat_abs z
negative_some (pos n) e = differ (sym e)
negative_some (negsuc n) e = omega arith

pub pattern_positive : (z : ℤ) → not (non_neg z) ≡ false → pattern z ≡ nat_abs z
pattern_positive (pos n) e = refl
pattern_positive (negsuc n) e = differ e

-- each is the other's inverse
pub whole_pattern : (z : ℤ) → mag z < 2 ^ 63 → whole (pattern z) ≡ z
whole_pattern (pos n) h = whole_low n h
whole_pattern (negsuc n) h = whole_high (2 ^ 64 - suc n) (omega arith) ∙ ap negsuc (let z : 2 ^ 64 - suc (2 ^ 64 - suc n) ≡ n = omega arith in z)

pub pattern_whole : (n : ℕ) → n < 2 ^ 64 → pattern (whole n) ≡ n
pattern_whole n h = by (ltb n (2 ^ 63)) refl
  where
    by : (t : Bool) → ltb n (2 ^ 63) ≡ t → pattern (cond t (pos n) (negsuc (2 ^ 64 - suc n))) ≡ n
    by true e = refl
    by false e = omega arith

pub pattern_small : (z : ℤ) → mag z < 2 ^ 63 → pattern z < 2 ^ 64
pattern_small (pos n) h = omega arith
pattern_small (negsuc n) h = omega arith

pub whole_small : (n : ℕ) → n < 2 ^ 64 → mag (whole n) < 2 ^ 63
whole_small n h = by (ltb n (2 ^ 63)) refl
  where
    by : (t : Bool) → ltb n (2 ^ 63) ≡ t → mag (cond t (pos n) (negsuc (2 ^ 64 - suc n))) < 2 ^ 63
    by true e = ltb-true n (2 ^ 63) e
    by false e = let z : 2 ^ 63 ≤ n = ltb-false n (2 ^ 63) e in omega arith
