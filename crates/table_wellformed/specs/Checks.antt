-- Tests of many words at once.
-- Assumes nothing.
use Rattle.std.specs.Prelude.{ℕ, zero, suc, ◌+◌, ◌-◌, Bool, true, false, ◌&&◌, List, leb, ltb, eqb}
use Rattle.table_layout.specs.Places.{word}
use Rattle.table_layout.specs.Constructs.{construct_at}
use Rattle.table_layout.specs.Held.{size_of}

-- at least `low` and at most `high`
abbrev pub limited : ℕ → ℕ → ℕ → Bool
limited low n high = leb low n && leb n high

-- n numbers from i on pass a test
unfoldable pub every : ℕ → ℕ → (ℕ → Bool) → Bool
every zero i f = true
every (suc n) i f = elim (f i) [ true ↦ every n (i + 1) f | false ↦ false ]

-- the numbers from `start` up to `end` do
abbrev pub from_to : ℕ → ℕ → (ℕ → Bool) → Bool
from_to start end f = every (end - start) start f

-- the words from `start` up to `end` are 0
abbrev pub all_zero : List ℕ → ℕ → ℕ → Bool
all_zero ws start end = from_to start end (λ k. eqb (word ws k) 0)

-- how many constructs construct i is, 0 where it is missing
abbrev pub size_at : List ℕ → ℕ → ℕ
size_at ws i = size_of (construct_at ws i)

-- A walk over constructs from j up to `end`, each where the one before it ends, n of them at most. `check` tests each, with a number x that
-- `next` carries on; `finish` tests where the walk ends.
unfoldable pub walk : ℕ → List ℕ → (ℕ → ℕ → Bool) → (ℕ → ℕ → ℕ) → (ℕ → ℕ → Bool) → ℕ → ℕ → ℕ → Bool
walk zero ws check next finish end j x = finish j x
walk (suc n) ws check next finish end j x =
    elim (ltb j end) [
      | true ↦ elim (ltb 0 (size_at ws j) && check j x) [ true ↦ walk n ws check next finish end (j + size_at ws j) (next j x) | false ↦ false ]
      | false ↦ finish j x
    ]
