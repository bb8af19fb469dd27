-- The whole number that a pattern of bits is, unsigned or signed, at any width: "`sint(width, set)` in two's complement" (document 02).
-- Assumes nothing.
use Rattle.std.specs.Prelude.{ℕ, zero, suc, ◌+◌, ◌*◌, ◌-◌, ◌^◌, Bool, true, false, not, cond, [], ◌∷◌, ltb, length, ℤ, pos, negsuc}
use Rattle.std.proofs.Math.IntN.{sub_ℕ}
use Rattle.basis.specs.Bits.{Bits, digit, bits_of, append_digits, value}

-- most significant bit first; of a signed pattern the first bit counts −2^(width − 1), all others as ever (`sub_ℕ a b` is a − b)
unfoldable pub pattern_value : Bool → Bits → ℤ
unfolding append_digits
pattern_value false s = pos (value s)
pattern_value true [] = pos 0
pattern_value true (b ∷ s) = sub_ℕ (value s) (digit b * 2 ^ length s)

-- the pattern of a width that is a whole number: of a negative one that of the number and 2^width together
unfoldable pub pattern_of : ℕ → ℤ → Bits
unfolding bits_of
pattern_of w (pos n) = bits_of w n
pattern_of w (negsuc n) = bits_of w (2 ^ w - suc n)

-- how many values of a width are below 0: 2^(width − 1) of a signed one
abbrev pub offset : Bool → ℕ → ℕ
offset false w = 0
offset true zero = 0
offset true (suc w) = 2 ^ w

-- the least value of a width, and the greatest
abbrev pub least_value : Bool → ℕ → ℤ
least_value signed w = sub_ℕ 0 (offset signed w)

abbrev pub greatest_value : Bool → ℕ → ℤ
greatest_value signed w = sub_ℕ (2 ^ w - 1) (offset signed w)

-- the size of the value that is farthest from 0, of a width of 1 and more: "variables at their widest", of a signed one the larger of its two ends in size
abbrev pub greatest_size : Bool → ℕ → ℕ
greatest_size false w = 2 ^ w - 1
greatest_size true w = 2 ^ (w - 1)

-- ---- values in their order, counted from 0: the least value is 0, the greatest 2^width − 1

-- a signed pattern with its first bit turned
abbrev pub turned : Bool → Bits → Bits
turned false s = s
turned true [] = []
turned true (b ∷ s) = not b ∷ s

-- the place of a pattern's value among all values of its width
abbrev pub place : Bool → Bits → ℕ
place signed s = value (turned signed s)

-- the first bit turned, of numbers: those below `half` and those from `half` on change places
unfoldable pub halves_swapped : ℕ → ℕ → ℕ
halves_swapped half n = cond (ltb n half) (n + half) (n - half)
