-- The format at some numbers.
-- Assumes nothing.
use mathlib.Core.Path.{◌≡◌, refl}
use mathlib.Core.List.{[], ◌∷◌}
use lib.IntN.{pos, negsuc}
use Rattle.run_saved.specs.Saved.{bytes, number, pattern, whole, listed}

lowest_first : bytes 4 16909060 ≡ 4 ∷ 3 ∷ 2 ∷ 1 ∷ []
unfolding bytes
lowest_first = refl

read_lowest_first : number 4 (4 ∷ 3 ∷ 2 ∷ 1 ∷ 9 ∷ []) ≡ 16909060
unfolding number
read_lowest_first = refl

-- -2 and 2
two_values : listed pattern 8 (negsuc 1 ∷ pos 2 ∷ []) ≡ 254 ∷ 255 ∷ 255 ∷ 255 ∷ 255 ∷ 255 ∷ 255 ∷ 255 ∷ 2 ∷ 0 ∷ 0 ∷ 0 ∷ 0 ∷ 0 ∷ 0 ∷ 0 ∷ []
unfolding listed bytes
two_values = refl

-- the ends of the range
least : whole 9223372036854775808 ≡ negsuc 9223372036854775807
least = refl

greatest : whole 9223372036854775807 ≡ pos 9223372036854775807
greatest = refl
