-- Sets of lookahead strings (document 01's windows) as words. "Window sets as u64 words; trailing zeros of the and of two words give
-- the least shared window."
-- Assumes nothing.
use Rattle.std.specs.Prelude.{ℕ, zero, suc, ◌/◌, ◌%◌, ◌^◌, ◌≤◌, ◌<◌, ◌≡◌, Bool, true, ◌⊎◌, ◌↔◌, List, [], length, get_or}
use Rattle.basis.specs.Bits.{Bits}
use Rattle.basis.specs.Counts.{Counts, Allows}
use Rattle.basis.specs.Lookahead.{join, number}

-- bit k of a word, lowest first
unfoldable pub bit : ℕ → ℕ → ℕ
bit w k = w / 2 ^ k % 2

-- the string with number n is bit n % 64 of word n / 64: 1 where it is there, else 0
unfoldable pub member : List ℕ → ℕ → ℕ
member words n = bit (get_or words (n / 64) 0) (n % 64)

-- the words hold the string. Number 0 is no string's, so bit 0 of word 0 never counts.
abbrev pub Has : List ℕ → Bits → Type 0
Has words s = (length s ≤ 8) × (member words (number s) ≡ 1)

-- the one form that a set has: eight words, and the bit that names no string is 0
pub record Proper (words : List ℕ) : Type 0 where
  pub eight : length words ≡ 8
  pub fit : (i : ℕ) → get_or words i 0 < 2 ^ 64
  pub unused : member words 0 ≡ 0

-- two sets have the same words
abbrev pub SameWords : List ℕ → List ℕ → Type 0
SameWords x y = (i : ℕ) → i < 8 → get_or x i 0 ≡ get_or y i 0

-- the words are the set of the strings that A names, in the one form of such a set
pub record Is (words : List ℕ) (A : Bits → Type 0) : Type 0 where
  pub strings : (s : Bits) → Has words s ↔ A s
  pub proper : Proper words

-- an answer that is true exactly where A holds
abbrev pub Decides : Bool → Type 0 → Type 0
Decides r A = (r ≡ true) ↔ A

-- the strings of A and those of B
abbrev pub Union : (Bits → Type 0) → (Bits → Type 0) → Bits → Type 0
Union A B s = A s ⊎ B s

-- "the joined windows, cut at 8 (a join with no windows has none)"
pub record Joined (A B : Bits → Type 0) (s : Bits) : Type 0 where
  pub left : Bits
  pub right : Bits
  pub in_left : A left
  pub in_right : B right
  pub whole : s ≡ join left right

-- the strings of k passes
abbrev pub Passes : (Bits → Type 0) → ℕ → Bits → Type 0
Passes A zero s = s ≡ []
Passes A (suc k) s = Joined A (Passes A k) s

-- "of a repetition, the join of k passes for each k its counts allow"
abbrev pub Repeated : (Bits → Type 0) → Counts → Bits → Type 0
Repeated A counts s = (k : ℕ) × Allows counts k × Passes A k s
