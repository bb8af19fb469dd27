-- "A clash is a window common to two branches"; "the answer carries the least common window".
-- Assumes nothing.
use Rattle.std.specs.Prelude.{ℕ, ◌≤◌, ◌≡◌, List, Option, Some, None}
use Rattle.basis.specs.Bits.{Bits}
use Rattle.basis.specs.Lookahead.{number}
use Rattle.lookahead.specs.Sets.{Has}

-- no string is in both sets, or n is the least number of those that are
abbrev pub LeastCommon : List ℕ → List ℕ → Option ℕ → Type 0
LeastCommon x y None = (s : Bits) → Has x s → Has y s → ⊥
LeastCommon x y (Some n) = ((s : Bits) × (number s ≡ n) × Has x s × Has y s) × ((s : Bits) → Has x s → Has y s → n ≤ number s)
