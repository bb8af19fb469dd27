-- A family of sets in one slice of words: set i is the eight words from 8 * i on.
-- Assumes nothing.
use Rattle.std.specs.Prelude.{ℕ, ◌+◌, ◌-◌, ◌*◌, ◌^◌, ◌<◌, ◌≡◌, Bool, true, false, ◌↔◌, List, [], ◌∷◌, length, get_or, take, drop}
use Rattle.std.specs.Int.Bits.{bit_or}
use Rattle.basis.specs.Bits.{Bits}
use Rattle.lookahead.specs.Sets.{Has, Proper, SameWords, Union}

-- the words of set i
abbrev pub part : ℕ → List ℕ → List ℕ
part i words = take 8 (drop (8 * i) words)

-- by how much the words can grow: a measure for whoever adds to a family until nothing changes
unfoldable pub room : List ℕ → ℕ
room [] = 0
room (w ∷ words) = (2 ^ 64 - w) + room words

-- the words of a set are or-ed into those of set i, and so its strings added; the answer says whether a word changed
pub record Added (old new : List ℕ) (i : ℕ) (set : List ℕ) (grew : Bool) : Type 0 where
  pub same_length : length new ≡ length old
  pub words : (k : ℕ) → k < 8 → get_or (part i new) k 0 ≡ bit_or (get_or (part i old) k 0) (get_or set k 0)
  pub strings : (s : Bits) → Has (part i new) s ↔ Union (Has (part i old)) (Has set) s
  pub proper : Proper (part i old) → Proper set → Proper (part i new)
  pub others : (j : ℕ) → (j ≡ i → ⊥) → part j new ≡ part j old
  pub grows : grew ≡ true → room new < room old
  pub kept : grew ≡ false → new ≡ old

-- set i is the given one
pub record Stored (old new : List ℕ) (i : ℕ) (set : List ℕ) : Type 0 where
  pub same_length : length new ≡ length old
  pub words : SameWords (part i new) set
  pub others : (j : ℕ) → (j ≡ i → ⊥) → part j new ≡ part j old
