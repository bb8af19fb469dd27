-- Laws of a word's bits: of or, and, shifts, remainders and trailing zeros, and that its bits make a word.
-- Assumes nothing.
use Prim.Native.Nat.{ℕ, zero, suc, ◌+◌, ◌-◌, ◌*◌, ◌/◌, ◌%◌, ◌^◌, ◌≤◌, ◌<◌, min, max}
use mathlib.Core.Path.{◌≡◌, refl, sym, ap, ◌∙◌}
use native.Mathlib.Nat.{pow-suc, zero-div, add-zero, div-eq_of_lt, mod-eq_of_lt, one-mul}
use native.Mathlib.Numerals.{one-add}
use native.Mathlib.Omega.{arith}
use lib.Bits.{bit_and, bit_or, and_step, or_step, and_shr, or_shr}
use lib.Count.{count_trailing_zeros, under}
use lib.Pow.{pow-lt, pow_mono, pow_pos, shr-shr, high, split}
use Rattle.lookahead.specs.Sets.{bit}
use Rattle.lookahead.specs.Inner.{Lowest}

pub bit_lt : (w k : ℕ) → bit w k < 2
unfolding bit
bit_lt w k = omega arith

pub bit-or : (a b k : ℕ) → bit (bit_or a b) k ≡ max (bit a k) (bit b k)
unfolding bit
bit-or a b k =
    let e : bit_or (a / 2 ^ k) (b / 2 ^ k) ≡ bit_or (a / 2 ^ k / 2) (b / 2 ^ k / 2) * 2 + max (a / 2 ^ k % 2) (b / 2 ^ k % 2) = or_step (a / 2 ^ k) (b / 2 ^ k) in
    ap (λ (x : ℕ). x % 2) (or_shr a b k) ∙ omega arith

pub bit-and : (a b k : ℕ) → bit (bit_and a b) k ≡ min (bit a k) (bit b k)
unfolding bit
bit-and a b k =
    let e : bit_and (a / 2 ^ k) (b / 2 ^ k) ≡ bit_and (a / 2 ^ k / 2) (b / 2 ^ k / 2) * 2 + min (a / 2 ^ k % 2) (b / 2 ^ k % 2) = and_step (a / 2 ^ k) (b / 2 ^ k) in
    ap (λ (x : ℕ). x % 2) (and_shr a b k) ∙ omega arith

pub bit_shr : (w s k : ℕ) → bit (w / 2 ^ s) k ≡ bit w (s + k)
unfolding bit
bit_shr w s k = ap (λ (x : ℕ). x % 2) (shr-shr w s k)

pub bit_none : (k : ℕ) → bit 0 k ≡ 0
unfolding bit
bit_none k = ap (λ (x : ℕ). x % 2) (zero-div (2 ^ k))

pub bit_first : (w : ℕ) → bit w 0 ≡ w % 2
unfolding bit
bit_first w = omega arith

pub bit_half : (w k : ℕ) → bit (w / 2) k ≡ bit w (suc k)
bit_half w k = bit_shr w 1 k ∙ ap (bit w) (one-add k)

-- a word below 2 ^ s has no bit from s on
pub bit_above : (w s k : ℕ) → w < 2 ^ s → s ≤ k → bit w k ≡ 0
unfolding bit
bit_above w s k l h =
    let p : 2 ^ s ≤ 2 ^ k = pow_mono h in
    let e : w / 2 ^ k ≡ 0 = div-eq_of_lt (omega arith) in
    omega arith

-- a word put together from a high and a low part
pub bit_low : (hi s lo k : ℕ) → k < s → bit (hi * 2 ^ s + lo) k ≡ bit lo k
bit_low hi zero lo k h = absurd (omega arith)
bit_low hi (suc s) lo zero h =
    let p : 2 ^ suc s ≡ 2 ^ s * 2 = pow-suc 2 s in
    rw (bit_first, bit_first, p) (omega arith)
bit_low hi (suc s) lo (suc k) h =
    let p : 2 ^ suc s ≡ 2 ^ s * 2 = pow-suc 2 s in
    let e : (hi * 2 ^ suc s + lo) / 2 ≡ hi * 2 ^ s + lo / 2 = rw p (omega arith) in
    sym (bit_half (hi * 2 ^ suc s + lo) k) ∙ ap (λ (w : ℕ). bit w k) e ∙ bit_low hi s (lo / 2) k (omega arith) ∙ bit_half lo k

pub bit_high : (hi s lo k : ℕ) → lo < 2 ^ s → bit (hi * 2 ^ s + lo) (s + k) ≡ bit hi k
bit_high hi s lo k h = sym (bit_shr (hi * 2 ^ s + lo) s k) ∙ ap (λ (w : ℕ). bit w k) (high hi s h)

pub bit_mod : (w s k : ℕ) → k < s → bit (w % 2 ^ s) k ≡ bit w k
bit_mod w s k h = sym (bit_low (w / 2 ^ s) s (w % 2 ^ s) k h) ∙ ap (λ (x : ℕ). bit x k) (split w s)

pub bit_shl : (w s k : ℕ) → bit (w * 2 ^ s) (s + k) ≡ bit w k
bit_shl w s k = ap (λ (x : ℕ). bit x (s + k)) (sym (add-zero (w * 2 ^ s))) ∙ bit_high w s 0 k (pow_pos s)

pub bit_shl_low : (w s k : ℕ) → k < s → bit (w * 2 ^ s) k ≡ 0
bit_shl_low w s k h = ap (λ (x : ℕ). bit x k) (sym (add-zero (w * 2 ^ s))) ∙ bit_low w s 0 k h ∙ bit_none k

-- words of n bits with the same bits are the same
pub bit_ext : (n a b : ℕ) → a < 2 ^ n → b < 2 ^ n → ((k : ℕ) → k < n → bit a k ≡ bit b k) → a ≡ b
bit_ext zero a b p q e = omega arith
bit_ext (suc n) a b p q e =
    let l : 2 ^ suc n ≡ 2 ^ n * 2 = pow-suc 2 n in
    let ih : a / 2 ≡ b / 2 = bit_ext n (a / 2) (b / 2) (omega arith) (omega arith) (λ k h. bit_half a k ∙ e (suc k) (omega arith) ∙ sym (bit_half b k)) in
    let f : a % 2 ≡ b % 2 = sym (bit_first a) ∙ e 0 (omega arith) ∙ bit_first b in
    omega arith

-- trailing zeros: the place of the lowest bit, and none below it
lowest_in : (n w : ℕ) → 0 < w → w < 2 ^ n → (bit w (count_trailing_zeros n w) ≡ 1) × ((k : ℕ) → k < count_trailing_zeros n w → bit w k ≡ 0) × (count_trailing_zeros n w < n)
unfolding count_trailing_zeros
lowest_in zero w p h = absurd (omega arith)
lowest_in (suc n) w p h = go (w % 2) refl (λ q. lowest_in n (w / 2) q (let l : 2 ^ suc n ≡ 2 ^ n * 2 = pow-suc 2 n in omega arith))
  where
    go : (d : ℕ) → w % 2 ≡ d
        → (0 < w / 2 → (bit (w / 2) (count_trailing_zeros n (w / 2)) ≡ 1) × ((k : ℕ) → k < count_trailing_zeros n (w / 2) → bit (w / 2) k ≡ 0) × (count_trailing_zeros n (w / 2) < n))
        → (bit w (under d (count_trailing_zeros n (w / 2))) ≡ 1) × ((k : ℕ) → k < under d (count_trailing_zeros n (w / 2)) → bit w k ≡ 0) × (under d (count_trailing_zeros n (w / 2)) < suc n)
    go zero e ih =
        let r = ih (omega arith) in
        (sym (bit_half w (count_trailing_zeros n (w / 2))) ∙ r.0, below e r.1, omega (arith, r.2))
      where
        below : w % 2 ≡ 0 → ((k : ℕ) → k < count_trailing_zeros n (w / 2) → bit (w / 2) k ≡ 0) → (k : ℕ) → k < suc (count_trailing_zeros n (w / 2)) → bit w k ≡ 0
        below z f zero l = bit_first w ∙ z
        below z f (suc k) l = sym (bit_half w k) ∙ f k (omega arith)
    go (suc zero) e ih = (bit_first w ∙ e, (λ k l. absurd (omega arith)), omega arith)
    go (suc (suc d)) e ih = absurd (omega arith)

pub lowest : (w : ℕ) → 0 < w → w < 2 ^ 64 → Lowest w (count_trailing_zeros 64 w)
lowest w p h = let r = lowest_in 64 w p h in record { here = r.0; below = r.1; within = r.2 }

-- a 1 shifted by less than the width
pub shifted_one : (e w : ℕ) → e < w → 1 * 2 ^ e % 2 ^ w ≡ 2 ^ e
shifted_one e w h = ap (λ (y : ℕ). y % 2 ^ w) (one-mul (2 ^ e)) ∙ mod-eq_of_lt (pow-lt h)

-- a word of m set bits
pub bit_ones : (m k : ℕ) → k < m → bit (2 ^ m - 1) k ≡ 1
bit_ones zero k h = absurd (omega arith)
bit_ones (suc m) zero h =
    let p : 2 ^ suc m ≡ 2 ^ m * 2 = pow-suc 2 m in
    let z : 0 < 2 ^ m = pow_pos m in
    bit_first (2 ^ suc m - 1) ∙ omega arith
bit_ones (suc m) (suc k) h =
    let p : 2 ^ suc m ≡ 2 ^ m * 2 = pow-suc 2 m in
    let z : 0 < 2 ^ m = pow_pos m in
    let e : (2 ^ suc m - 1) / 2 ≡ 2 ^ m - 1 = omega arith in
    sym (bit_half (2 ^ suc m - 1) k) ∙ ap (λ (w : ℕ). bit w k) e ∙ bit_ones m k (omega arith)
