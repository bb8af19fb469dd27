-- Families of sets that grow by rounds until nothing changes. Only the crate's own helpers promise this.
-- Assumes nothing.
use Rattle.std.specs.Prelude.{ℕ, ◌≤◌, ◌<◌, ◌≡◌, Bool, true, false, List, [], length}
use Rattle.basis.specs.Bits.{Bits}
use Rattle.lookahead.specs.Sets.{Has, Proper}
use Rattle.lookahead_slices.specs.Family.{part, room}
use Rattle.table_layout.specs.Held.{held}
use Rattle.theory.specs.Derivation.{construct}
use Rattle.theory.specs.Lookahead.{First, Follow}
use Rattle.theory.proofs.Inversion.{Keeps}
use Rattle.table_first_follow.specs.Rules.{Family, Seeded, Applied}
use Rattle.table_first_follow.specs.Sets.{family_words, sets_held}

-- the strings of each set in a family's words
abbrev pub strings : List ℕ → Family
strings words i x = Has (part i words) x

-- the words are those of a family whose sets have all strings of `Low` and none but those of `High`
pub record Between (Low High : Family) (words : List ℕ) : Type 0 where
  pub size : length words ≡ family_words
  pub proper : (i : ℕ) → i < sets_held → Proper (part i words)
  pub all : (i : ℕ) → i < sets_held → (x : Bits) → Low i x → strings words i x
  pub only : (i : ℕ) (x : Bits) → strings words i x → High i x

-- strings of `High` were added; where no word grew the words are as before, and `Closed`
pub record Step (Low High : Family) (Closed : List ℕ → Type 0) (old new : List ℕ) (grew : Bool) : Type 0 where
  pub keeps : Between Low High old → Between Low High new
  pub grows : grew ≡ true → room new < room old
  pub kept : grew ≡ false → new ≡ old
  pub closed : grew ≡ false → Closed new

-- a set where the family has one; a number past the family's names nothing
abbrev pub within : List ℕ → Family
within words i x = i < sets_held → strings words i x

module _ (ws : List ℕ) where
  abbrev pub first_of : Family
  first_of i x = First (held ws) (construct i ((held ws).node i)) x

  -- FIRST has the strings of fields and eods
  abbrev pub first_low : Family
  first_low i x = Seeded ((held ws).node i) x

  -- set i has what its node's rule makes of the others
  abbrev pub FirstClosed : ℕ → List ℕ → Type 0
  FirstClosed i words = (x : Bits) → Applied (strings words) ((held ws).node i) x → strings words i x

  abbrev pub FirstStep : (List ℕ → Type 0) → List ℕ → List ℕ → Bool → Type 0
  FirstStep Closed old new grew = Step first_low first_of Closed old new grew

  abbrev pub follow_of : Family
  follow_of i x = Follow (held ws) i x

  -- FOLLOW has the empty string of the opening use
  abbrev pub follow_low : Family
  follow_low i x = (i ≡ (held ws).start) × (x ≡ [])

  -- the parts of node i have what follows them
  abbrev pub FollowClosed : ℕ → List ℕ → Type 0
  FollowClosed i words = Keeps (held ws) (within words) i ((held ws).node i)

  abbrev pub FollowStep : (List ℕ → Type 0) → List ℕ → List ℕ → Bool → Type 0
  FollowStep Closed old new grew = Step follow_low follow_of Closed old new grew

-- all from number i on
abbrev pub From : (ℕ → List ℕ → Type 0) → ℕ → List ℕ → Type 0
From Closed i words = (j : ℕ) → i ≤ j → j < sets_held → Closed j words
