-- The parts of a construct: they fill it, one after the other, and the cases of a switch are those with a condition.
-- Assumes nothing.
use Rattle.std.specs.Prelude.{ℕ, ◌+◌, ◌-◌, Bool, cond, ◌&&◌, ◌||◌, List, leb, ltb, eqb}
use Rattle.table_layout.specs.Places.{term_count, construct_word}
use Rattle.table_wellformed.specs.Checks.{size_at, walk}

-- construct i has a condition: a list of terms that is not empty
abbrev pub conditioned : List ℕ → ℕ → Bool
conditioned ws i = ltb (construct_word ws i 6) (construct_word ws i 7) && leb (construct_word ws i 7) (term_count ws)

-- it has none
abbrev pub unconditioned : List ℕ → ℕ → Bool
unconditioned ws i = eqb (construct_word ws i 6) 0 && eqb (construct_word ws i 7) 0

-- "the default last and optional": of a switch whose parts go from `first` up to `end`, part j is the last and not the only one
abbrev pub default_at : List ℕ → ℕ → ℕ → ℕ → Bool
default_at ws first j end = (ltb first j && eqb (j + size_at ws j) end) && unconditioned ws j

-- a part j: of a switch, a case with a condition or the default; of another construct, one without
abbrev pub part_laid : List ℕ → Bool → ℕ → ℕ → ℕ → Bool
part_laid ws switch first j end = cond switch (conditioned ws j || default_at ws first j end) (unconditioned ws j)

-- the parts from `first` up to `end`: each begins where the one before it ends, and the last ends at `end`
abbrev pub parts_laid : List ℕ → Bool → ℕ → ℕ → Bool
parts_laid ws switch first end = walk (end - first) ws (λ j x. part_laid ws switch first j end) (λ j x. x) (λ j x. eqb j end) end first 0
