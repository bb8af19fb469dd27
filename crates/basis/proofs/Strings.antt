-- Strings of bits that are the same.
-- Assumes nothing.
use mathlib.Core.Path.{◌≡◌, refl, ap}
use mathlib.Core.Bool.{true, false, false≢true}
use mathlib.Core.List.{[], ◌∷◌}
use Rattle.basis.specs.Bits.{Bits, same}

pub same_refl : (s : Bits) → same s s ≡ true
unfolding same
same_refl [] = refl
same_refl (true ∷ s) = same_refl s
same_refl (false ∷ s) = same_refl s

pub same_true : (s t : Bits) → same s t ≡ true → s ≡ t
unfolding same
same_true [] [] e = refl
same_true [] (b ∷ t) e = absurd (false≢true e)
same_true (a ∷ s) [] e = absurd (false≢true e)
same_true (true ∷ s) (true ∷ t) e = ap (true ∷◌) (same_true s t e)
same_true (true ∷ s) (false ∷ t) e = absurd (false≢true e)
same_true (false ∷ s) (true ∷ t) e = absurd (false≢true e)
same_true (false ∷ s) (false ∷ t) e = ap (false ∷◌) (same_true s t e)
