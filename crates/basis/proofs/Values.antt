-- Laws of bit strings and the numbers that they are: `bits_of` and `value` undo each other, and the leading 8 bits of a number.
-- Assumes nothing.
use Prim.Native.Nat.{ℕ, zero, suc, ◌+◌, ◌*◌, ◌-◌, ◌/◌, ◌%◌, ◌^◌, ◌≤◌, ◌<◌}
use mathlib.Core.Path.{◌≡◌, refl, sym, ap, ap₂, subst, ◌∙◌}
use mathlib.Core.Bool.{Bool, true, false}
use mathlib.Core.List.{[], ◌∷◌}
use native.Mathlib.Omega.{arith}
use native.Mathlib.Nat.{pow-succ', mod-lt, mod-eq_of_lt, mul_assoc, add_assoc, add_comm, suc-add, add-mul, zero-mul, mul-le-mul_right, mul-add-div_right, le_of_lt, lt_of_not-le}
use native.Mathlib.Numerals.{one-add}
use native.Mathlib.Decide.{dec_le}
use borrow.Author.Tests.{eq-eqb, ne_eqb, eqb-true, eqb-false}
use lib.Dec.{eqb}
use lib.ListN.{length, take}
use lib.Seq.{take_all}
use lib.Pow.{pow_pos, pow-add, mod-pow-add, shr-shr, shr_lt, high}
use Rattle.basis.specs.Bits.{Bits, digit, bits_of, append_digits, value}
use Rattle.basis.specs.Lookahead.{lookahead, number}

pub length_bits_of : (w v : ℕ) → length (bits_of w v) ≡ w
unfolding bits_of
length_bits_of zero v = refl
length_bits_of (suc w) v = ap suc (length_bits_of w v)

-- the digit that a bit was made of
digit_of : (n : ℕ) → n < 2 → digit (eqb n 1) ≡ n
digit_of n h = go (eqb n 1) refl
  where
    go : (t : Bool) → eqb n 1 ≡ t → digit t ≡ n
    go true e = sym (eqb-true n 1 e)
    go false e = let f : n ≡ 1 → ⊥ = eqb-false n 1 e in small n h f
      where
        small : (m : ℕ) → m < 2 → (m ≡ 1 → ⊥) → 0 ≡ m
        small zero p f = refl
        small (suc zero) p f = absurd (f refl)
        small (suc (suc m)) p f = absurd (omega arith)

-- the top digit and the rest: v modulo 2^(w + 1)
pub mod_step : (w v : ℕ) → v % 2 ^ suc w ≡ v / 2 ^ w % 2 * 2 ^ w + v % 2 ^ w
mod_step w v = ap (λ (k : ℕ). v % 2 ^ k) (sym (one-add w)) ∙ mod-pow-add v 1 w

split_digit : (n b p r : ℕ) → (n * 2 + b) * p + r ≡ n * (2 * p) + (b * p + r)
split_digit n b p r = ap (λ (x : ℕ). x + r) (add-mul (n * 2) b p ∙ ap (λ (x : ℕ). x + b * p) (mul_assoc n 2 p)) ∙ add_assoc (n * (2 * p)) (b * p) r

pub append_bits_of : (w n v : ℕ) → append_digits n (bits_of w v) ≡ n * 2 ^ w + v % 2 ^ w
unfolding append_digits bits_of
append_bits_of zero n v = let e : v % 1 ≡ 0 = omega arith in omega arith
append_bits_of (suc w) n v =
    let d : digit (eqb (v / 2 ^ w % 2) 1) ≡ v / 2 ^ w % 2 = digit_of (v / 2 ^ w % 2) (mod-lt (v / 2 ^ w) (omega arith)) in
    let m : v % 2 ^ suc w ≡ v / 2 ^ w % 2 * 2 ^ w + v % 2 ^ w = mod_step w v in
    ap (λ (b : ℕ). append_digits (n * 2 + b) (bits_of w v)) d ∙ append_bits_of w (n * 2 + v / 2 ^ w % 2) v ∙ split_digit n (v / 2 ^ w % 2) (2 ^ w) (v % 2 ^ w) ∙ ap₂ ◌+◌ (ap (λ (x : ℕ). n * x) (sym (pow-succ' 2 w))) (sym m)

pub value_bits_of : (w v : ℕ) → value (bits_of w v) ≡ v % 2 ^ w
value_bits_of w v =
    let z : 0 * 2 ^ w ≡ 0 = zero-mul (2 ^ w) in
    append_bits_of w 0 v ∙ omega arith

-- ---- a string of bits, and the number that it is

pub append_value : (s : Bits) (n : ℕ) → append_digits n s ≡ n * 2 ^ length s + value s
unfolding append_digits
append_value [] n = omega arith
append_value (b ∷ s) n =
    let e : append_digits (0 * 2 + digit b) s ≡ (0 * 2 + digit b) * 2 ^ length s + value s = append_value s (0 * 2 + digit b) in
    let d : 0 * 2 + digit b ≡ digit b = omega arith in
    append_value s (n * 2 + digit b) ∙ split_digit n (digit b) (2 ^ length s) (value s) ∙ ap₂ ◌+◌ (ap (λ (x : ℕ). n * x) (sym (pow-succ' 2 (length s)))) (sym (e ∙ ap (λ (x : ℕ). x * 2 ^ length s + value s) d))

-- a digit is 0 or 1
pub digit_most : (b : Bool) → digit b ≤ 1
digit_most true = omega arith
digit_most false = omega arith

pub value_less : (s : Bits) → value s < 2 ^ length s
unfolding append_digits
value_less [] = omega arith
value_less (b ∷ s) =
    let d : 0 * 2 + digit b ≤ 1 = omega (arith, digit_most b) in
    let p : (0 * 2 + digit b) * 2 ^ length s ≤ 1 * 2 ^ length s = mul-le-mul_right (2 ^ length s) d in
    let q : 2 ^ suc (length s) ≡ 2 * 2 ^ length s = pow-succ' 2 (length s) in
    omega (arith, append_value s (0 * 2 + digit b), value_less s)

eqb_digit : (b : Bool) (n : ℕ) → eqb ((n * 2 + digit b) % 2) 1 ≡ b
eqb_digit true n = eq-eqb ((n * 2 + 1) % 2) 1 (omega arith)
eqb_digit false n = ne_eqb ((n * 2 + 0) % 2) 1 (λ e. omega arith)

pub bits_of_append : (s : Bits) (n : ℕ) → bits_of (length s) (append_digits n s) ≡ s
unfolding bits_of append_digits
bits_of_append [] n = refl
bits_of_append (b ∷ s) n =
    let e : append_digits (n * 2 + digit b) s / 2 ^ length s ≡ n * 2 + digit b = ap (λ (x : ℕ). x / 2 ^ length s) (append_value s (n * 2 + digit b)) ∙ high (n * 2 + digit b) (length s) (value_less s) in
    ap₂ ◌∷◌ (ap (λ (x : ℕ). eqb (x % 2) 1) e ∙ eqb_digit b n) (bits_of_append s (n * 2 + digit b))

pub bits_of_value : (s : Bits) → bits_of (length s) (value s) ≡ s
bits_of_value s = bits_of_append s 0

-- ---- the leading bits

pub take_bits_of : (j m v : ℕ) → take j (bits_of (j + m) v) ≡ bits_of j (v / 2 ^ m)
unfolding bits_of
take_bits_of zero m v = refl
take_bits_of (suc j) m v =
    let e : v / 2 ^ (j + m) ≡ v / 2 ^ m / 2 ^ j = ap (λ (k : ℕ). v / 2 ^ k) (add_comm j m) ∙ sym (shr-shr v m j) in
    ap (λ (w : ℕ). take (suc j) (bits_of w v)) (suc-add j m) ∙ ap₂ ◌∷◌ (ap (λ (x : ℕ). eqb (x % 2) 1) e) (take_bits_of j m v)

-- the number of the lookahead string of a value of `w` bits
pub number_lookahead : (w v : ℕ) → v < 2 ^ w → number (lookahead (bits_of w v)) ≡ (2 ^ w + v) / 2 ^ (w - 8)
number_lookahead w v h = go (dec_le 8 w)
  where
    long : (m : ℕ) → v < 2 ^ (8 + m) → number (lookahead (bits_of (8 + m) v)) ≡ (2 ^ (8 + m) + v) / 2 ^ m
    long m k =
        let x : v / 2 ^ m < 2 ^ 8 = shr_lt 8 m k in
        ap number (take_bits_of 8 m v) ∙ append_bits_of 8 1 (v / 2 ^ m) ∙ ap (λ (y : ℕ). 1 * 2 ^ 8 + y) (mod-eq_of_lt x) ∙ sym (ap (λ (y : ℕ). (y + v) / 2 ^ m) (pow-add 2 8 m) ∙ mul-add-div_right (pow_pos m) (2 ^ 8) v)

    short : w ≤ 8 → number (lookahead (bits_of w v)) ≡ (2 ^ w + v) / 2 ^ (w - 8)
    short k =
        let e : w - 8 ≡ 0 = omega arith in
        let l : length (bits_of w v) ≤ 8 = omega (arith, length_bits_of w v) in
        ap number (take_all 8 (bits_of w v) l) ∙ append_bits_of w 1 v ∙ ap (λ (y : ℕ). 1 * 2 ^ w + y) (mod-eq_of_lt h) ∙ omega arith ∙ sym (ap (λ (y : ℕ). (2 ^ w + v) / 2 ^ y) e)

    go : Dec (8 ≤ w) → number (lookahead (bits_of w v)) ≡ (2 ^ w + v) / 2 ^ (w - 8)
    go (yes k) =
        let e : 8 + (w - 8) ≡ w = omega arith in
        subst (λ (x : ℕ). number (lookahead (bits_of x v)) ≡ (2 ^ x + v) / 2 ^ (w - 8)) e (long (w - 8) (subst (λ (x : ℕ). v < 2 ^ x) (sym e) h))
    go (no k) = short (le_of_lt (lt_of_not-le k))
