-- What the rule of a node makes of the sets of its parts. Only the crate's own helpers promise this: FIRST is the least family that
-- every node's rule keeps to.
-- Assumes nothing.
use Rattle.std.specs.Prelude.{ℕ, ◌≡◌, Bool, true, List, [], ◌∷◌, length}
use Rattle.basis.specs.Bits.{Bits}
use Rattle.basis.specs.Lookahead.{lookahead}
use Rattle.lookahead.specs.Sets.{Joined, Repeated}
use Rattle.theory.specs.Grammar.{Node, alternative, concatenation, repetition, switch, use_of, field, eod, ◌∈◌}

-- a set of lookahead strings for each construct
abbrev pub Family : Type 1
Family = ℕ → Bits → Type 0

-- the strings of these constructs
abbrev pub Some : Family → List ℕ → Bits → Type 0
Some F is x = (b : ℕ) × (b ∈ is) × F b x

-- "the joined windows" of these constructs
abbrev pub Members : Family → List ℕ → Bits → Type 0
Members F [] x = x ≡ []
Members F (m ∷ is) x = Joined (F m) (Members F is) x

-- "the leading 8 bits (or all, if fewer) of each bit pattern it admits"
abbrev pub Leading : (Bits → ℕ) → (Bits → Bool) → Bits → Type 0
Leading w static x = (bits : Bits) × (length bits ≡ w bits) × (static bits ≡ true) × (x ≡ lookahead bits)

module _ {Context Values : Type 0} where
  -- the strings that a node has without its parts: a field's, eod's, and "a switch without a default also has the empty first window" (Req 02)
  abbrev pub Seeded : Node Context Values → Bits → Type 0
  Seeded (alternative is) x = ⊥
  Seeded (concatenation is) x = ⊥
  Seeded (repetition counts static fixed b) x = ⊥
  Seeded (switch chosen optional is) x = (optional ≡ true) × (x ≡ [])
  Seeded (use_of enters opens closes b) x = ⊥
  Seeded (field w admits static binds) x = Leading w static x
  Seeded eod x = x ≡ []

  -- the strings of a node with parts, by its parts' sets
  abbrev pub Applied : Family → Node Context Values → Bits → Type 0
  Applied F (alternative is) x = Some F is x
  Applied F (concatenation is) x = Members F is x
  Applied F (repetition counts static fixed b) x = Repeated (F b) static x
  Applied F (switch chosen optional is) x = Some F is x
  Applied F (use_of enters opens closes b) x = F b x
  Applied F (field w admits static binds) x = ⊥
  Applied F eod x = ⊥
