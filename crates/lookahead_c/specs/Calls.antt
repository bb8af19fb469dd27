-- What the calls of the tests' library promise, over a lent slice with three sets: two that are given, and a third for the result.
-- Assumes nothing.
use Rattle.std.specs.Prelude.{ℕ, ◌≤◌, ◌<◌, ◌≡◌, Bool, true, false, ◌⊎◌, ◌↔◌, List, length}
use Rattle.basis.specs.Bits.{Bits}
use Rattle.basis.specs.Lookahead.{number}
use Rattle.lookahead.specs.Sets.{Has}
use Rattle.lookahead_slices.specs.Family.{part, Added}
use Rattle.lookahead_slices.specs.Narrow.{Put}

-- a way to make a set of strings of two
abbrev pub Way : Type 1
Way = (Bits → Type 0) → (Bits → Type 0) → Bits → Type 0

-- the third set is made of the first two, and no other changes; or there is no room, and nothing changes
abbrev pub Made : Way → List ℕ → List ℕ → Bool → Type 0
Made way old new true =
    (24 ≤ length old)
    × ((s : Bits) → Has (part 2 new) s ↔ way (Has (part 0 old)) (Has (part 1 old)) s)
    × (length new ≡ length old)
    × ((j : ℕ) → (j ≡ 2 → ⊥) → part j new ≡ part j old)
Made way old new false = (length old < 24) × (new ≡ old)

-- the number of the least common string of the first two sets, 0 where there is none, or no room for two sets
pub record Least (sets : List ℕ) (n : ℕ) : Type 0 where
  pub no_room : length sets < 16 → n ≡ 0
  pub found : 16 ≤ length sets → 0 < n → (s : Bits) × (number s ≡ n) × Has (part 0 sets) s × Has (part 1 sets) s
  pub least : 16 ≤ length sets → (s : Bits) → Has (part 0 sets) s → Has (part 1 sets) s → (0 < n) × (n ≤ number s)

-- the second set is added to the first; or there is no room, and nothing changes
pub record Adds (old new : List ℕ) (grew : Bool) : Type 0 where
  pub room : 16 ≤ length old → Added old new 0 (part 1 old) grew
  pub no_room : length old < 16 → (new ≡ old) × (grew ≡ false)

-- a set is written as sixteen u32 words, and nothing else changes; or there is no set or no room, and nothing changes
abbrev pub Narrowed : List ℕ → List ℕ → List ℕ → Bool → Type 0
Narrowed set old new true = (8 ≤ length set) × (16 ≤ length old) × Put old new 0 (part 0 set)
Narrowed set old new false = ((length set < 8) ⊎ (length old < 16)) × (new ≡ old)
