-- What a construct's answer says of the computed sets, for any words. Only the crate's own helpers promise this: `Conflicts` says what it
-- means for the grammar of well laid out words.
-- Assumes nothing.
use Rattle.std.specs.Prelude.{ℕ, ◌+◌, ◌<◌, ◌≡◌, Bool, true, false, List, []}
use Rattle.basis.specs.Bits.{Bits}
use Rattle.table_layout.specs.Held.{passes_fixed}
use Rattle.table_layout.specs.declared.Construct.{Construct}
use Rattle.table_layout.specs.declared.Below.{Below}
use Rattle.table_layout.specs.declared.OwnList.{OwnList}
use Rattle.table_layout.specs.Attributes.{attributes_of}
use Rattle.table_first_follow.specs.Rules.{Family}
use Rattle.table_first_follow.specs.Parts.{siblings}
use Rattle.table_conflicts.specs.Windows.{Lowest, Shared}
use Rattle.table_conflicts.specs.Conflicts.{FirstHolders}
use Rattle.table_conflicts.specs.declared.Clash.{Clash}

-- strings that both sets have
abbrev pub Common : (Bits → Type 0) → (Bits → Type 0) → Bits → Type 0
Common A B x = A x × B x

-- of branches
abbrev pub Branching : Family → List ℕ → Clash → Type 0
Branching F is Clash.None = (x : Bits) → Shared F is x → ⊥
Branching F is (Clash.Branches window first second) = (0 < window) × Lowest (Shared F is) window × FirstHolders F is window first second
Branching F is (Clash.Passes window) = ⊥

-- of continue and exit
abbrev pub Turning : (Bits → Type 0) → (Bits → Type 0) → Clash → Type 0
Turning A B Clash.None = (x : Bits) → Common A B x → ⊥
Turning A B (Clash.Branches window first second) = ⊥
Turning A B (Clash.Passes window) = (0 < window) × Lowest (Common A B) window

-- no conflict is possible
abbrev pub NoClash : Clash → Type 0
NoClash Clash.None = Unit {0}
NoClash (Clash.Branches window first second) = ⊥
NoClash (Clash.Passes window) = ⊥

-- "a repetition not written `{n}`"
abbrev pub Repeating : Bool → (Bits → Type 0) → (Bits → Type 0) → Clash → Type 0
Repeating true A B r = NoClash r
Repeating false A B r = Turning A B r

-- by the size of construct i and what stands below it, from the FOLLOW and prediction sets
abbrev pub ClashBelow : List ℕ → Family → Family → ℕ → ℕ → Below → Clash → Type 0
ClashBelow ws follow prediction i size Below.Nothing r = NoClash r
ClashBelow ws follow prediction i size Below.Branches r = Branching prediction (siblings ws (i + 1) (i + size)) r
ClashBelow ws follow prediction i size Below.Members r = NoClash r
ClashBelow ws follow prediction i size (Below.Body passes) r = Repeating (passes_fixed ws passes) (prediction (i + 1)) (follow i) r
ClashBelow ws follow prediction i size Below.Cases r = NoClash r
ClashBelow ws follow prediction i size Below.Rule r = NoClash r

abbrev pub ClashOf : List ℕ → Family → Family → ℕ → Construct → Clash → Type 0
ClashOf ws follow prediction i c r = ClashBelow ws follow prediction i (attributes_of c).size (attributes_of c).below r

-- "repeated body has the empty first window"
abbrev pub EmptyBelow : Family → ℕ → Below → Type 0
EmptyBelow first i Below.Nothing = ⊥
EmptyBelow first i Below.Branches = ⊥
EmptyBelow first i Below.Members = ⊥
EmptyBelow first i (Below.Body passes) = first (i + 1) []
EmptyBelow first i Below.Cases = ⊥
EmptyBelow first i Below.Rule = ⊥

abbrev pub EmptyAt : Family → ℕ → Construct → Type 0
EmptyAt first i c = EmptyBelow first i (attributes_of c).below

-- "a uint whose set has no variable and no value left" (Req 06): it has no first window
abbrev pub NoValueIn : Family → ℕ → OwnList → Type 0
NoValueIn first i OwnList.None = ⊥
NoValueIn first i (OwnList.Counts start end) = ⊥
NoValueIn first i (OwnList.Set start end) = (x : Bits) → first i x → ⊥

abbrev pub NoValueAt : Family → ℕ → Construct → Type 0
NoValueAt first i c = NoValueIn first i (attributes_of c).own
