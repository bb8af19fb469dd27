-- "the ends of the range and -1 among the tests": patterns of some widths, worked out.
-- Assumes nothing.
use Prim.Native.Nat.{ℕ, ◌+◌, ◌-◌}
use mathlib.Core.Path.{◌≡◌, refl}
use mathlib.Core.Bool.{true, false}
use lib.IntN.{ℤ, pos, negsuc}
use Rattle.basis.specs.Bits.{bits_of, append_digits}
use Rattle.basis.specs.Patterns.{pattern_value, pattern_of, least_value, greatest_value}

-- a signed pattern and the whole number that it is
abbrev Signed : ℕ → ℕ → ℤ → Type 0
Signed w n z = (pattern_value true (bits_of w n) ≡ z) × (pattern_of w z ≡ bits_of w n)

-- a width of which half of the patterns are `half`: the least value 100…0, the greatest 011…1, and −1 is 111…1, which unsigned is the greatest
abbrev Width : ℕ → ℕ → Type 0
Width w half =
    Signed w half (negsuc (half - 1))
    × Signed w (half - 1) (pos (half - 1))
    × Signed w (half + half - 1) (negsuc 0)
    × (least_value true w ≡ negsuc (half - 1))
    × (greatest_value true w ≡ pos (half - 1))
    × (least_value false w ≡ pos 0)
    × (greatest_value false w ≡ pos (half + half - 1))
    × (pattern_value false (bits_of w (half + half - 1)) ≡ pos (half + half - 1))

width_1 : Width 1 1
unfolding pattern_value pattern_of bits_of append_digits
width_1 = ((refl, refl), (refl, refl), (refl, refl), refl, refl, refl, refl, refl)

width_2 : Width 2 2
unfolding pattern_value pattern_of bits_of append_digits
width_2 = ((refl, refl), (refl, refl), (refl, refl), refl, refl, refl, refl, refl)

width_8 : Width 8 128
unfolding pattern_value pattern_of bits_of append_digits
width_8 = ((refl, refl), (refl, refl), (refl, refl), refl, refl, refl, refl, refl)

width_31 : Width 31 1073741824
unfolding pattern_value pattern_of bits_of append_digits
width_31 = ((refl, refl), (refl, refl), (refl, refl), refl, refl, refl, refl, refl)

width_32 : Width 32 2147483648
unfolding pattern_value pattern_of bits_of append_digits
width_32 = ((refl, refl), (refl, refl), (refl, refl), refl, refl, refl, refl, refl)

width_33 : Width 33 4294967296
unfolding pattern_value pattern_of bits_of append_digits
width_33 = ((refl, refl), (refl, refl), (refl, refl), refl, refl, refl, refl, refl)

width_62 : Width 62 2305843009213693952
unfolding pattern_value pattern_of bits_of append_digits
width_62 = ((refl, refl), (refl, refl), (refl, refl), refl, refl, refl, refl, refl)

width_63 : Width 63 4611686018427387904
unfolding pattern_value pattern_of bits_of append_digits
width_63 = ((refl, refl), (refl, refl), (refl, refl), refl, refl, refl, refl, refl)

width_64 : Width 64 9223372036854775808
unfolding pattern_value pattern_of bits_of append_digits
width_64 = ((refl, refl), (refl, refl), (refl, refl), refl, refl, refl, refl, refl)
