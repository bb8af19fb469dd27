-- A set in a slice of u32 words, as a table has it: sixteen words from a place on, the string with number n at bit n % 32 of word n / 32.
-- Assumes nothing.
use Rattle.std.specs.Prelude.{ℕ, ◌+◌, ◌*◌, ◌/◌, ◌%◌, ◌^◌, ◌≤◌, ◌<◌, ◌≡◌, ◌⊎◌, List, length, get_or}
use Rattle.basis.specs.Bits.{Bits}
use Rattle.basis.specs.Lookahead.{number}
use Rattle.lookahead.specs.Sets.{bit}

-- 1 where the string with number n is in the set at a place, else 0
unfoldable pub member_at : List ℕ → ℕ → ℕ → ℕ
member_at words at n = bit (get_or words (at + n / 32) 0) (n % 32)

-- the set at a place holds the string
abbrev pub HasAt : List ℕ → ℕ → Bits → Type 0
HasAt words at s = (length s ≤ 8) × (member_at words at (number s) ≡ 1)

-- half k of the words of a set: words are cut in two, the lower half first
unfoldable pub half : List ℕ → ℕ → ℕ
half set k = get_or set (k / 2) 0 / 2 ^ (32 * (k % 2)) % 2 ^ 32

-- the set stands at a place
abbrev pub StandsAt : List ℕ → ℕ → List ℕ → Type 0
StandsAt words at set = (k : ℕ) → k < 16 → get_or words (at + k) 0 ≡ half set k

-- the set is written at a place, and nothing else changes
pub record Put (old new : List ℕ) (at : ℕ) (set : List ℕ) : Type 0 where
  pub same_length : length new ≡ length old
  pub stands : StandsAt new at set
  pub others : (n : ℕ) → (n < at) ⊎ (at + 16 ≤ n) → get_or new n 0 ≡ get_or old n 0
