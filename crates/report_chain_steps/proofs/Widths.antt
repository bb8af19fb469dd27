-- Laws of strings by their numbers.
-- Assumes nothing.
use Prim.Native.Nat.{ℕ, zero, suc, ◌+◌, ◌-◌, ◌*◌, ◌/◌, ◌%◌, ◌^◌, ◌≤◌, ◌<◌, min}
use mathlib.Core.Path.{◌≡◌, refl, sym, ap, ◌∙◌}
use mathlib.Core.Bool.{Bool, true, false, cond}
use mathlib.Core.List.{[], ◌∷◌, ◌++◌}
use native.Mathlib.Omega.{arith}
use native.Mathlib.Nat.{div-eq_of_lt, pow-suc}
use native.Mathlib.Decide.{dec_le}
use borrow.Author.Tests.{ltb-true, ltb-false}
use lib.Dec.{ltb}
use lib.ListN.{length, take, drop, take-append-drop, length-drop, length-take}
use lib.Seq.{take-append_seam, take_all}
use lib.Pow.{pow_mono, low}
use Rattle.basis.specs.Bits.{Bits}
use Rattle.basis.specs.Lookahead.{lookahead, number}
use Rattle.basis.proofs.Numbers.{number_injective, number_pos, number_small, number_lt, number_bits_of, front_number}
use Rattle.basis.proofs.Values.{length_bits_of}
use Rattle.report_chains.specs.Strings.{width_of, string}

-- w bits, and the 1 before them
record Wide (n w : ℕ) : Type 0 where
  least : 2 ^ w ≤ n
  most : n < 2 ^ suc w
  few : w ≤ 8

split : (P : ℕ → Type 0) (n a x y : ℕ) → (n < a → P x) → (a ≤ n → P y) → P (cond (ltb n a) x y)
split P n a x y f g = go (ltb n a) refl
  where
    go : (t : Bool) → ltb n a ≡ t → P (cond t x y)
    go true e = f (ltb-true n a e)
    go false e = g (ltb-false n a e)

wide : (n w : ℕ) → 2 ^ w ≤ n → n < 2 ^ suc w → w ≤ 8 → Wide n w
wide n w a b c = record { least = a; most = b; few = c }

width_wide : (n : ℕ) → 0 < n → n < 512 → Wide n (width_of n)
unfolding width_of
width_wide n p h =
    split (Wide n) n 2 0 _ (λ a. wide n 0 (omega arith) (omega arith) (omega arith))
    (λ a. split (Wide n) n 4 1 _ (λ b. wide n 1 (omega arith) (omega arith) (omega arith))
    (λ b. split (Wide n) n 8 2 _ (λ c. wide n 2 (omega arith) (omega arith) (omega arith))
    (λ c. split (Wide n) n 16 3 _ (λ d. wide n 3 (omega arith) (omega arith) (omega arith))
    (λ d. split (Wide n) n 32 4 _ (λ e. wide n 4 (omega arith) (omega arith) (omega arith))
    (λ e. split (Wide n) n 64 5 _ (λ f. wide n 5 (omega arith) (omega arith) (omega arith))
    (λ f. split (Wide n) n 128 6 _ (λ g. wide n 6 (omega arith) (omega arith) (omega arith))
    (λ g. split (Wide n) n 256 7 8 (λ k. wide n 7 (omega arith) (omega arith) (omega arith))
    (λ k. wide n 8 (omega arith) (omega arith) (omega arith)))))))))

-- a number below 256 has less than 8 bits
pub width_small : (n : ℕ) → n < 256 → width_of n < 8
unfolding width_of
width_small n h =
    split (λ (w : ℕ). w < 8) n 2 0 _ (λ a. omega arith)
    (λ a. split (λ (w : ℕ). w < 8) n 4 1 _ (λ b. omega arith)
    (λ b. split (λ (w : ℕ). w < 8) n 8 2 _ (λ c. omega arith)
    (λ c. split (λ (w : ℕ). w < 8) n 16 3 _ (λ d. omega arith)
    (λ d. split (λ (w : ℕ). w < 8) n 32 4 _ (λ e. omega arith)
    (λ e. split (λ (w : ℕ). w < 8) n 64 5 _ (λ f. omega arith)
    (λ f. split (λ (w : ℕ). w < 8) n 128 6 _ (λ g. omega arith)
    (λ g. split (λ (w : ℕ). w < 8) n 256 7 8 (λ k. omega arith) (λ k. absurd (omega arith)))))))))

-- no number has more than 8
pub width_at_most : (n : ℕ) → width_of n ≤ 8
unfolding width_of
width_at_most n =
    split (λ (w : ℕ). w ≤ 8) n 2 0 _ (λ a. omega arith)
    (λ a. split (λ (w : ℕ). w ≤ 8) n 4 1 _ (λ b. omega arith)
    (λ b. split (λ (w : ℕ). w ≤ 8) n 8 2 _ (λ c. omega arith)
    (λ c. split (λ (w : ℕ). w ≤ 8) n 16 3 _ (λ d. omega arith)
    (λ d. split (λ (w : ℕ). w ≤ 8) n 32 4 _ (λ e. omega arith)
    (λ e. split (λ (w : ℕ). w ≤ 8) n 64 5 _ (λ f. omega arith)
    (λ f. split (λ (w : ℕ). w ≤ 8) n 128 6 _ (λ g. omega arith)
    (λ g. split (λ (w : ℕ). w ≤ 8) n 256 7 8 (λ k. omega arith) (λ k. omega arith))))))))

-- a number from 2 on has one at least
pub width_some : (n : ℕ) → 1 < n → n < 512 → 0 < width_of n
width_some n p h = go (width_of n) (width_wide n (omega arith) h)
  where
    go : (w : ℕ) → Wide n w → 0 < w
    go zero q = let e : n < 2 = q.most in absurd (omega arith)
    go (suc w) q = omega arith

pub string_length : (n : ℕ) → length (string n) ≡ width_of n
string_length n = length_bits_of (width_of n) n

-- the string with a number has it
pub string_number : (n : ℕ) → 0 < n → n < 512 → number (string n) ≡ n
string_number n p h =
    let w : ℕ = width_of n in
    let q : Wide n w = width_wide n p h in
    let a : 2 ^ w ≤ n = q.least in
    let b : n < 2 ^ suc w = q.most in
    let d : 2 ^ suc w ≡ 2 ^ w * 2 = pow-suc 2 w in
    let m : ℕ = n - 2 ^ w in
    let e : n ≡ 1 * 2 ^ w + m = omega arith in
    let f : n % 2 ^ w ≡ m = ap (λ (k : ℕ). k % 2 ^ w) e ∙ low 1 w (omega arith) in
    number_bits_of w n ∙ omega arith

pub number_string : (s : Bits) → length s ≤ 8 → string (number s) ≡ s
number_string s h = number_injective (string (number s)) s (string_number (number s) (number_pos s) (number_small s h))

pub width_number : (s : Bits) → length s ≤ 8 → width_of (number s) ≡ length s
width_number s h = sym (string_length (number s)) ∙ ap length (number_string s h)

-- a string whose number, cut, is that of another begins with it
pub front_of : (s t : Bits) (k : ℕ) → number s / 2 ^ k ≡ number t → take (length t) s ≡ t
front_of s t k e = elim (dec_le k (length s)) [
  | yes h ↦
      let j : ℕ = length s - k in
      let a : Bits = take j s in
      let b : Bits = drop j s in
      let whole : a ++ b ≡ s = take-append-drop j s in
      let l : length b ≡ k = length-drop j s ∙ omega arith in
      let n : number a ≡ number t = sym (front_number a b) ∙ ap (λ (x : Bits). number x / 2 ^ length b) whole ∙ ap (λ (i : ℕ). number s / 2 ^ i) l ∙ e in
      let q : a ≡ t = number_injective a t n in
      ap (λ (x : Bits). take (length x) s) (sym q) ∙ ap (take (length a)) (sym whole) ∙ take-append_seam a b ∙ q
  | no h ↦
      let a : number s < 2 ^ suc (length s) = number_lt s in
      let m : 2 ^ suc (length s) ≤ 2 ^ k = pow_mono (omega arith) in
      let z : number s / 2 ^ k ≡ 0 = div-eq_of_lt (omega arith) in
      let p : 0 < number t = number_pos t in
      absurd (omega arith)
]

-- a cut string that is short was not cut
pub not_cut : (s t : Bits) → s ≡ lookahead t → length s < 8 → t ≡ s
not_cut s t e h =
    let l : length s ≡ min 8 (length t) = ap length e ∙ length-take 8 t in
    sym (take_all 8 t (omega arith)) ∙ sym e

-- a cut string is the beginning
pub cut_begins : (s t : Bits) → s ≡ lookahead t → take (length s) t ≡ s
cut_begins s t e =
    let l : length s ≡ min 8 (length t) = ap length e ∙ length-take 8 t in
    elim (dec_le (length t) 8) [
      | yes h ↦ take_all (length s) t (omega arith) ∙ sym (take_all 8 t h) ∙ sym e
      | no h ↦ let q : length s ≡ 8 = omega arith in ap (λ (k : ℕ). take k t) q ∙ sym e
    ]

-- the beginning of a beginning
pub begins_twice : (s t u : Bits) → take (length s) t ≡ s → take (length t) u ≡ t → take (length s) u ≡ s
begins_twice s t u e f =
    let a : length s ≡ min (length s) (length t) = sym (ap length e) ∙ length-take (length s) t in
    sym (take_take (length s) (length t) u (omega arith)) ∙ ap (take (length s)) f ∙ e
  where
    take_take : (m n : ℕ) (l : Bits) → m ≤ n → take m (take n l) ≡ take m l
    take_take zero n l h = refl
    take_take (suc m) zero l h = absurd (omega arith)
    take_take (suc m) (suc n) [] h = refl
    take_take (suc m) (suc n) (x ∷ l) h = ap (λ (r : Bits). x ∷ r) (take_take m n l (omega arith))
