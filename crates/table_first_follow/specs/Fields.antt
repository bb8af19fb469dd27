-- The FIRST sets of fields, by the numbers of their strings. Only the crate's own helpers promise this.
-- Assumes nothing.
use Rattle.std.specs.Prelude.{ℕ, ◌+◌, ◌≤◌, ◌<◌, ◌≡◌, Bool, ◌↔◌, List, length}
use Rattle.basis.specs.Bits.{Bits}
use Rattle.basis.specs.Lookahead.{number}
use Rattle.lookahead.specs.Sets.{bit}
use Rattle.term_prefixes.specs.Prefixes.{Leads}
use Rattle.term_words.specs.Words.{terms}
use Rattle.term_words.specs.declared.Term.{Term}

-- the strings with numbers from `low` up to `high` that P names
abbrev pub Numbered : ℕ → ℕ → (ℕ → Type 0) → Bits → Type 0
Numbered low high P x = (length x ≤ 8) × (low ≤ number x) × (number x < high) × P (number x)

-- all
abbrev pub Any : ℕ → Type 0
Any n = Unit {0}

-- those of a field of the width, signed or not, with the set of a list whose first term has number i
abbrev pub Window : ℕ → Bool → ℕ → List Term → ℕ → Type 0
Window width signed i xs n = (v : ℕ) × Leads width signed i xs n v

-- the same, with the set of the terms from `start` up to `end`
abbrev pub Led : ℕ → Bool → List ℕ → ℕ → ℕ → ℕ → Type 0
Led width signed words start end = Window width signed start (terms words start end)

-- the strings whose numbers P names
abbrev pub Named : (ℕ → Type 0) → Bits → Type 0
Named P x = (length x ≤ 8) × P (number x)

-- the bits of a word, of which the lowest is for number n and the last for the one before `past`, say which numbers P names
abbrev pub Names : (ℕ → Type 0) → ℕ → ℕ → ℕ → Type 0
Names P n past word = (k : ℕ) → n + k < past → (bit word k ≡ 1) ↔ P (n + k)
