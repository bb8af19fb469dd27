-- Lists that are written one after the other.
-- Assumes nothing.
use Rattle.std.specs.Prelude.{ℕ, zero, suc, ◌+◌, ◌%◌, Bool, true, false, List, [], ◌++◌, map}
use Rattle.std.proofs.lemmas.List.Edits.{sets}

-- the lists of n numbers from i on, one after the other
unfoldable pub flat : ℕ → ℕ → (ℕ → List ℕ) → List ℕ
flat zero i f = []
flat (suc n) i f = f i ++ flat n (i + 1) f

-- the sum of n numbers from i on
unfoldable pub sum : ℕ → ℕ → (ℕ → ℕ) → ℕ
sum zero i f = 0
sum (suc n) i f = f i + sum n (i + 1) f

-- the first of n numbers from i on that passes a test; the one after them where none does
unfoldable pub first_of : ℕ → ℕ → (ℕ → Bool) → ℕ
first_of zero i f = i
first_of (suc n) i f = elim (f i) [ true ↦ i | false ↦ first_of n (i + 1) f ]

-- a number as a word of 32 bits
abbrev pub narrow : ℕ → ℕ
narrow n = n % 4294967296

-- words with a list written into them from a place on
unfoldable pub written : List ℕ → ℕ → List ℕ → List ℕ
written ws k list = sets ws k (map narrow list)
