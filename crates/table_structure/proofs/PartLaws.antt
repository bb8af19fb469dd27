-- The parts of a construct, of laid out words: they tile what follows it up to its end.
-- Assumes nothing.
use Prim.Native.Nat.{ℕ, ◌+◌}
use mathlib.Core.Bool.{Bool, true, false}
use mathlib.Core.List.{List, [], ◌∷◌}
use Rattle.table_layout.specs.Attributes.{attributes_of}
use Rattle.table_layout.specs.Held.{size_of, parts}
use Rattle.table_layout.specs.declared.Construct.{Construct}
use Rattle.table_layout.specs.declared.Below.{Below}
use Rattle.table_wellformed.specs.Parts.{part_laid}
use Rattle.table_structure.proofs.Tiles.{Tiles}

-- the parts of construct i, as the grammar that the table holds has them: by its size and what stands below it
abbrev pub parts_below : List ℕ → ℕ → ℕ → Below → List ℕ
parts_below ws i size Below.Nothing = []
parts_below ws i size Below.Branches = parts size ws (i + 1) (i + size)
parts_below ws i size Below.Members = parts size ws (i + 1) (i + size)
parts_below ws i size (Below.Body passes) = (i + 1) ∷ []
parts_below ws i size Below.Cases = parts size ws (i + 1) (i + size)
parts_below ws i size Below.Rule = []

abbrev pub parts_of : List ℕ → ℕ → Construct → List ℕ
parts_of ws i c = parts_below ws i (size_of c) (attributes_of c).below

-- only cases may have conditions
abbrev pub has_cases : Below → Bool
has_cases Below.Nothing = false
has_cases Below.Branches = false
has_cases Below.Members = false
has_cases (Below.Body passes) = false
has_cases Below.Cases = true
has_cases Below.Rule = false

abbrev pub is_switch : Construct → Bool
is_switch c = has_cases (attributes_of c).below

abbrev pub Tiled : List ℕ → ℕ → Construct → Type 0
Tiled ws i c = Tiles ws (λ j. part_laid ws (is_switch c) (i + 1) j (i + size_of c)) (i + size_of c) (i + 1) (parts_of ws i c)
