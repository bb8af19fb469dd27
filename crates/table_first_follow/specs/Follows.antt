-- What a construct hands to its parts. Only the crate's own helpers promise this.
-- Assumes nothing.
use Rattle.std.specs.Prelude.{ℕ, ◌≤◌, ◌<◌, ◌≡◌, Bool, true, false, List, [], ◌∷◌}
use Rattle.basis.specs.Bits.{Bits}
use Rattle.lookahead.specs.Sets.{Is, Joined}
use Rattle.lookahead_slices.specs.Family.{part, Added}
use Rattle.table_layout.specs.Held.{opening}
use Rattle.table_first_follow.specs.Rules.{Family, Members}
use Rattle.table_first_follow.specs.Rounds.{strings}
use Rattle.table_first_follow.specs.Sets.{sets_held}

-- a set is added to set b, where the family has one
pub record Given (old new : List ℕ) (b : ℕ) (set : List ℕ) (grew : Bool) : Type 0 where
  pub there : b < sets_held → Added old new b set grew
  pub past : sets_held ≤ b → (new ≡ old) × (grew ≡ false)

-- a member comes before what follows it; a branch changes nothing for the one before it
abbrev pub Before : Bool → (Bits → Type 0) → (Bits → Type 0) → Bits → Type 0
Before true A B x = Joined A B x
Before false A B x = B x

-- what follows a member whose later members are these, or a branch, where A follows the owner
abbrev pub After : Bool → Family → (Bits → Type 0) → List ℕ → Bits → Type 0
After true F A is x = Joined (Members F is) A x
After false F A is x = A x

-- each of these parts has what follows it
abbrev pub Handed : Bool → Family → (Bits → Type 0) → Family → List ℕ → Type 0
Handed joined F A H [] = Unit {0}
Handed joined F A H (m ∷ is) = ((x : Bits) → After joined F A is x → H m x) × Handed joined F A H is

-- "of the start rule, the empty one": it follows the opening use
abbrev pub Started : ℕ → Bits → Type 0
Started i x = (i ≡ opening) × (x ≡ [])

abbrev pub StartSets : List ℕ → Type 0
StartSets words = (i : ℕ) → i < sets_held → Is (part i words) (Started i)

-- each set of one family joined with that of the other
abbrev pub Predicting : List ℕ → List ℕ → Family
Predicting first follow i x = Joined (strings first i) (strings follow i) x

abbrev pub JoinedSets : List ℕ → List ℕ → List ℕ → Type 0
JoinedSets first follow words = (i : ℕ) → i < sets_held → Is (part i words) (Predicting first follow i)
