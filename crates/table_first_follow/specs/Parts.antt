-- The parts of a construct, one after the other, and what is gathered of their sets. Only the crate's own helpers promise this.
-- Assumes nothing.
use Rattle.std.specs.Prelude.{ℕ, ◌-◌, ◌≡◌, Bool, true, false, List, [], ◌∷◌}
use Rattle.basis.specs.Bits.{Bits}
use Rattle.lookahead.specs.Sets.{Joined, Union}
use Rattle.table_layout.specs.Held.{parts}
use Rattle.table_first_follow.specs.Rules.{Family}

-- the parts from number j up to number `end`
abbrev pub siblings : List ℕ → ℕ → ℕ → List ℕ
siblings ws j end = parts (end - j) ws j end

-- two sets joined, or united
abbrev pub Combined : Bool → (Bits → Type 0) → (Bits → Type 0) → Bits → Type 0
Combined true A B x = Joined A B x
Combined false A B x = Union A B x

-- the set that adds nothing
abbrev pub Neutral : Bool → Bits → Type 0
Neutral true x = x ≡ []
Neutral false x = ⊥

-- the sets of these constructs, all joined or all united
abbrev pub Gathered : Bool → Family → List ℕ → Bits → Type 0
Gathered joined F [] x = Neutral joined x
Gathered joined F (m ∷ is) x = Combined joined (F m) (Gathered joined F is) x
