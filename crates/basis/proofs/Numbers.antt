-- Laws of a string's number: one string has it, its bounds, the string that a number names, and the numbers of the two parts of a string.
-- Assumes nothing.
use Prim.Native.Nat.{ℕ, zero, suc, ◌+◌, ◌-◌, ◌*◌, ◌/◌, ◌%◌, ◌^◌, ◌≤◌, ◌<◌}
use mathlib.Core.Path.{◌≡◌, refl, sym, ap, ap₂, ◌∙◌}
use mathlib.Core.Bool.{Bool, true, false}
use mathlib.Core.List.{[], ◌∷◌, ◌++◌}
use native.Mathlib.Nat.{pow-suc, one-mul, mod-eq_of_lt, div-eq_of_lt}
use native.Mathlib.Decide.{dec_le, dec_lt}
use native.Mathlib.Omega.{arith}
use lib.ListN.{length, take}
use lib.Seq.{take_all}
use lib.Pow.{pow_mono, pow_pos, high, low}
use Rattle.basis.specs.Bits.{Bits, digit, bits_of, append_digits, value}
use Rattle.basis.specs.Lookahead.{lookahead, number}
use Rattle.basis.proofs.Values.{length_bits_of, append_bits_of, append_value, value_less, take_bits_of}

digit_lt : (b : Bool) → digit b < 2
digit_lt true = omega arith
digit_lt false = omega arith

digit_injective : (b c : Bool) → digit b ≡ digit c → b ≡ c
digit_injective true true e = refl
digit_injective true false e = let z : ◌≡◌ {A = ℕ} 1 0 = e in absurd (omega arith)
digit_injective false true e = let z : ◌≡◌ {A = ℕ} 0 1 = e in absurd (omega arith)
digit_injective false false e = refl

pub append_append : (n : ℕ) (a b : Bits) → append_digits n (a ++ b) ≡ append_digits (append_digits n a) b
unfolding append_digits
append_append n [] b = refl
append_append n (x ∷ a) b = append_append (n * 2 + digit x) a b

-- a number is a 1 followed by the bits
pub number_value : (s : Bits) → number s ≡ 2 ^ length s + value s
number_value s = append_value s 1 ∙ ap (λ (x : ℕ). x + value s) (one-mul (2 ^ length s))

pub number_ge : (s : Bits) → 2 ^ length s ≤ number s
number_ge s = let e : number s ≡ 2 ^ length s + value s = number_value s in omega arith

pub number_lt : (s : Bits) → number s < 2 ^ suc (length s)
number_lt s =
    let e : number s ≡ 2 ^ length s + value s = number_value s in
    let l : value s < 2 ^ length s = value_less s in
    omega arith

pub number_pos : (s : Bits) → 0 < number s
number_pos s = let a : 2 ^ length s ≤ number s = number_ge s in let b : 0 < 2 ^ length s = pow_pos (length s) in omega arith

-- of strings of at most 8 bits the numbers are 1 to 511
pub number_small : (s : Bits) → length s ≤ 8 → number s < 512
number_small s h =
    let a : number s < 2 ^ suc (length s) = number_lt s in
    let m : 2 ^ suc (length s) ≤ 2 ^ 9 = pow_mono {j = 9} (omega arith) in
    omega arith

-- the parts of a string: all but the last bits are the quotient, the last bits the remainder
module _ (a b : Bits) where
  pub number_append : number (a ++ b) ≡ number a * 2 ^ length b + value b
  number_append = append_append 1 a b ∙ append_value b (number a)

  pub front_number : number (a ++ b) / 2 ^ length b ≡ number a
  front_number = rw number_append (high (number a) (length b) (value_less b))

  pub back_number : 2 ^ length b + number (a ++ b) % 2 ^ length b ≡ number b
  back_number = rw (number_append, low (number a) (length b) (value_less b)) (sym (number_value b))

-- strings with the same number are the same string
same_length : (s t : Bits) → number s ≡ number t → length s ≤ length t
same_length s t e = elim (dec_le (length s) (length t)) [
  | yes h ↦ h
  | no h ↦
      let m : 2 ^ suc (length t) ≤ 2 ^ length s = pow_mono (omega arith) in
      let a : 2 ^ length s ≤ number s = number_ge s in
      let b : number t < 2 ^ suc (length t) = number_lt t in
      omega arith
]

append_injective : (n m : ℕ) (s t : Bits) → length s ≡ length t → append_digits n s ≡ append_digits m t → (n ≡ m) × (s ≡ t)
unfolding append_digits
append_injective n m [] [] l e = (e, refl)
append_injective n m [] (c ∷ t) l e = absurd (omega arith)
append_injective n m (b ∷ s) [] l e = absurd (omega arith)
append_injective n m (b ∷ s) (c ∷ t) l e =
    let ih = append_injective (n * 2 + digit b) (m * 2 + digit c) s t (omega arith) e in
    let q : n * 2 + digit b ≡ m * 2 + digit c = ih.0 in
    let x : digit b < 2 = digit_lt b in
    let y : digit c < 2 = digit_lt c in
    (omega arith, ap₂ (λ (z : Bool) (r : Bits). z ∷ r) (digit_injective b c (omega arith)) ih.1)

pub number_injective : (s t : Bits) → number s ≡ number t → s ≡ t
number_injective s t e =
    let h : length s ≤ length t = same_length s t e in
    let k : length t ≤ length s = same_length t s (sym e) in
    (append_injective 1 1 s t (omega arith) e).1

-- the length of the string that has a number
log : (k n : ℕ) → 0 < n → n < 2 ^ suc k → (l : ℕ) × (l ≤ k) × (2 ^ l ≤ n) × (n < 2 ^ suc l)
log zero n p h = (0, omega arith, omega arith, h)
log (suc k) n p h = elim (dec_lt n (2 ^ suc k)) [
  | yes l ↦ let r = log k n p l in (r.0, omega arith, r.2, r.3)
  | no l ↦ (suc k, omega arith, omega arith, h)
]

pub named : (k n : ℕ) → 0 < n → n < 2 ^ suc k → (s : Bits) × (length s ≤ k) × (number s ≡ n)
named k n p h =
    let r = log k n p h in
    let l = r.0 in
    let e : append_digits 1 (bits_of l (n - 2 ^ l)) ≡ 1 * 2 ^ l + (n - 2 ^ l) % 2 ^ l = append_bits_of l 1 (n - 2 ^ l) in
    let q : 2 ^ suc l ≡ 2 ^ l * 2 = pow-suc 2 l in
    let a : 2 ^ l ≤ n = r.2 in
    let b : n < 2 ^ suc l = r.3 in
    let m : (n - 2 ^ l) % 2 ^ l ≡ n - 2 ^ l = mod-eq_of_lt (omega arith) in
    (bits_of l (n - 2 ^ l), rw length_bits_of r.1, omega arith)

pub number_bits_of : (w v : ℕ) → number (bits_of w v) ≡ 2 ^ w + v % 2 ^ w
number_bits_of w v = append_bits_of w 1 v ∙ ap (λ (x : ℕ). x + v % 2 ^ w) (one-mul (2 ^ w))

-- the number of a field's lookahead string
pub field_short : (w v : ℕ) → w ≤ 8 → number (lookahead (bits_of w v)) ≡ 2 ^ w + v % 2 ^ w
field_short w v h = ap number (take_all 8 (bits_of w v) (rw length_bits_of h)) ∙ number_bits_of w v

pub field_long : (w v : ℕ) → 8 < w → number (lookahead (bits_of w v)) ≡ 256 + v / 2 ^ (w - 8) % 256
field_long w v h =
    ap (λ (n : ℕ). number (take 8 (bits_of n v))) (let e : w ≡ 8 + (w - 8) = omega arith in e) ∙ ap number (take_bits_of 8 (w - 8) v) ∙ number_bits_of 8 (v / 2 ^ (w - 8))

-- a value of 32 bits begins with zeros in a field of 40 bits or more
pub field_wide : (w v : ℕ) → 40 ≤ w → v < 2 ^ 32 → number (lookahead (bits_of w v)) ≡ 256
field_wide w v h l =
    let p : 2 ^ 32 ≤ 2 ^ (w - 8) = pow_mono {i = 32} (omega arith) in
    let z : v / 2 ^ (w - 8) ≡ 0 = div-eq_of_lt (omega arith) in
    field_long w v (omega arith) ∙ omega arith

-- "empty 1, 0010 is 18, byte 41 is 321"
worked : (number [] ≡ 1) × (number (bits_of 4 2) ≡ 18) × (number (bits_of 8 0x41) ≡ 321)
unfolding append_digits bits_of
worked = (refl, refl, refl)
