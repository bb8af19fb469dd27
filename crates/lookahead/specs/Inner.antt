-- What the helpers promise each other. A reader of what the sets promise needs none of this.
-- Assumes nothing.
use Rattle.std.specs.Prelude.{ℕ, ◌+◌, ◌*◌, ◌/◌, ◌%◌, ◌^◌, ◌≤◌, ◌<◌, min, max, ◌≡◌, ◌↔◌, List, ◌++◌, length, get_or}
use Rattle.basis.specs.Bits.{Bits}
use Rattle.lookahead.specs.Sets.{bit, member, Has}

-- x is the set a with the bit that names no string clear
pub record Cleared (a x : List ℕ) : Type 0 where
  pub same : (n : ℕ) → 0 < n → member x n ≡ member a n
  pub unused : member x 0 ≡ 0

-- t is the place of the lowest bit of w
pub record Lowest (w t : ℕ) : Type 0 where
  pub here : bit w t ≡ 1
  pub below : (k : ℕ) → k < t → bit w k ≡ 0
  pub within : t < 64

-- bits 2k and 2k + 1 of a word
abbrev pub either : ℕ → ℕ → ℕ
either w k = max (bit w (2 * k)) (bit w (2 * k + 1))

-- neighbouring bits of w folded into one
pub record Folded (w r : ℕ) : Type 0 where
  pub small : r < 2 ^ 32
  pub at : (k : ℕ) → k < 32 → bit r k ≡ either w k

-- two words folded into one, and that added to w
pub record FoldedPair (w low high r : ℕ) : Type 0 where
  pub at_low : (k : ℕ) → k < 32 → bit r k ≡ max (bit w k) (either low k)
  pub at_high : (k : ℕ) → k < 32 → bit r (32 + k) ≡ max (bit w (32 + k)) (either high k)

-- a word folded into those of its bits that the mask has
pub record Deepened (w mask r : ℕ) : Type 0 where
  pub at_low : (k : ℕ) → k < 32 → bit r k ≡ max (bit w k) (min (either w k) (bit mask k))
  pub at_high : (k : ℕ) → 32 ≤ k → bit r k ≡ bit w k

-- word 0 with the strings of its own and of word 1 folded into it
pub record FirstWord (w next r : ℕ) : Type 0 where
  pub at_low : (k : ℕ) → 0 < k → k < 32 → bit r k ≡ max (bit w k) (either r k)
  pub at_high : (k : ℕ) → k < 32 → bit r (32 + k) ≡ max (bit w (32 + k)) (either next k)

-- p has the prefixes of the strings of b
abbrev pub Prefixes : List ℕ → List ℕ → Type 0
Prefixes b p = (s : Bits) → Has p s ↔ ((t : Bits) × Has b (s ++ t))

-- the bits g in fields of h bits, each d after the one before it, and nothing between them
pub record Fields (g : ℕ → ℕ) (h d w : ℕ) : Type 0 where
  pub here : (f i : ℕ) → i < h → f * d + i < 64 → bit w (f * d + i) ≡ g (f * h + i)
  pub between : (f i : ℕ) → h ≤ i → i < d → f * d + i < 64 → bit w (f * d + i) ≡ 0

-- the 2 ^ e bits of the numbers from x * 2 ^ e on
pub record Run (words : List ℕ) (x e r : ℕ) : Type 0 where
  pub small : r < 2 ^ (2 ^ e)
  pub at : (i : ℕ) → i < 2 ^ e → bit r i ≡ member words (x * 2 ^ e + i)

-- a copy of b, of 2 ^ j bits, for each bit of a
abbrev pub Product : ℕ → ℕ → ℕ → ℕ → Type 0
Product a b j r = (k : ℕ) → k < 64 → bit r k ≡ bit a (k / 2 ^ j) * bit b (k % 2 ^ j)

-- number n is in the join by a string of b with j bits
abbrev pub split_at : List ℕ → List ℕ → ℕ → ℕ → ℕ
split_at a b n j = member a (n / 2 ^ j) * member b (2 ^ j + n % 2 ^ j)

-- word r of the strings that end in a string of b with j bits
abbrev pub Piece : List ℕ → List ℕ → ℕ → ℕ → ℕ → Type 0
Piece a b r j w = (k : ℕ) → k < 64 → bit w k ≡ split_at a b (64 * r + k) j

-- number n is in the join by some string of b
abbrev pub Splits : List ℕ → List ℕ → ℕ → ℕ → Type 0
Splits a b m n = (j : ℕ) × (j < m) × (split_at a b n j ≡ 1)

-- word r of the join
abbrev pub Word : List ℕ → List ℕ → ℕ → ℕ → Type 0
Word a b r w = (k : ℕ) → k < 64 → (bit w k ≡ 1) ↔ Splits a b 9 (64 * r + k)

-- word r of the join, with the strings of b or, where results have 8 bits, with their prefixes p
pub record JoinedWord (a b p : List ℕ) (r w : ℕ) : Type 0 where
  pub short : r < 4 → Word a b r w
  pub full : 4 ≤ r → Word a p r w

-- the first n of eight words are as P asks
pub record Filled (P : ℕ → ℕ → Type 0) (n : ℕ) (words : List ℕ) : Type 0 where
  pub eight : length words ≡ 8
  pub fit : (i : ℕ) → get_or words i 0 < 2 ^ 64
  pub at : (i : ℕ) → i < n → P i (get_or words i 0)

-- the bits from l up to h
abbrev pub Stripe : ℕ → ℕ → ℕ → Type 0
Stripe l h w = (k : ℕ) → k < 64 → (bit w k ≡ 1) ↔ ((l ≤ k) × (k < h))

-- the words of strings shorter than 8 bits are 0: their numbers are below 256
abbrev pub OnlyLong : List ℕ → Type 0
OnlyLong words = (i : ℕ) → i < 4 → get_or words i 0 ≡ 0
