-- Counts of a repetition. "A repetition's counts are a set of whole numbers from 0: `{length - 8}` with length 5 is the empty set,
-- which no derivation meets."
-- Assumes nothing.
use Rattle.std.specs.Prelude.{ℕ, ◌+◌, ◌-◌, ◌≤◌, true, false, leb, ℤ, pos, negsuc}

-- such a set: empty, all from `low` on, or `low` to `low + more`
pub data Counts : Type 0 where
  none : Counts
  from : (low : ℕ) → Counts
  within : (low more : ℕ) → Counts

-- k is in the set
abbrev pub Allows : Counts → ℕ → Type 0
Allows none k = ⊥
Allows (from low) k = low ≤ k
Allows (within low more) k = (low ≤ k) × (k ≤ low + more)

-- a whole number below 0 counts as 0 where it is a least count
abbrev pub least : ℤ → ℕ
least (pos n) = n
least (negsuc n) = 0

-- `low` to `high`, where there are any
unfoldable pub between : ℕ → ℕ → Counts
between low high = elim (leb low high) [ true ↦ within low (high - low) | false ↦ none ]

-- `?`
abbrev pub zero_or_one : Counts
zero_or_one = within 0 1

-- `*`
abbrev pub zero_or_more : Counts
zero_or_more = from 0

-- `+`
abbrev pub one_or_more : Counts
one_or_more = from 1

-- `{n}`; a negative n is the empty set
unfoldable pub exactly : ℤ → Counts
exactly (pos n) = within n 0
exactly (negsuc n) = none

-- `{a~}`
unfoldable pub at_least : ℤ → Counts
at_least a = from (least a)

-- `{a~b}`, and `{~b}` with a = 0
unfoldable pub span : ℤ → ℤ → Counts
unfolding between
span a (pos high) = between (least a) high
span a (negsuc high) = none
