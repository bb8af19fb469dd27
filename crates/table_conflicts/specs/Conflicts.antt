-- Refusals 9 and 10 over a table's words. What they are is the theory's `EmptyBody` and `Conflict`.
-- Assumes nothing.
use Rattle.std.specs.Prelude.{ℕ, ◌≤◌, ◌<◌, ◌≡◌, ◌⊎◌, List}
use Rattle.basis.specs.Bits.{Bits}
use Rattle.basis.specs.Lookahead.{number}
use Rattle.theory.specs.Grammar.{◌∈◌, alternative}
use Rattle.theory.specs.Lookahead.{Predicted, Conflict, LeastConflict}
use Rattle.table_layout.specs.Held.{held}
use Rattle.table_conflicts.specs.declared.Clash.{Clash}

-- ---- of sets of windows, one for each construct

-- construct j has the window with number n
abbrev pub HasNumber : (ℕ → Bits → Type 0) → ℕ → ℕ → Type 0
HasNumber F j n = (x : Bits) × (number x ≡ n) × F j x

-- the first two of these parts that have the window with number n
pub record FirstHolders (F : ℕ → Bits → Type 0) (is : List ℕ) (n first second : ℕ) : Type 0 where
  pub first_listed : first ∈ is
  pub second_listed : second ∈ is
  pub in_order : first < second
  pub first_has : HasNumber F first n
  pub second_has : HasNumber F second n
  pub others : (j : ℕ) → j ∈ is → HasNumber F j n → (j ≡ first) ⊎ (second ≤ j)

module _ (ws : List ℕ) (i : ℕ) where
  -- construct i has a conflict (01's clash)
  abbrev pub Conflicting : Type 0
  Conflicting = (x : Bits) × Conflict (held ws) i x

  -- "the answer carries the least common window", by its number
  abbrev pub LeastWindow : ℕ → Type 0
  LeastWindow n = (x : Bits) × (number x ≡ n) × LeastConflict (held ws) i x

  -- the first two branches that have the window: for the report to a clerk
  pub record FirstTwo (n first second : ℕ) : Type 0 where
    pub branches : List ℕ
    pub node : (held ws).node i ≡ alternative branches
    pub holders : FirstHolders (Predicted (held ws)) branches n first second

  -- what an answer says: there is none; or the least window, with the two branches of an alternative or of a repetition's continue and exit
  abbrev pub Answered : Clash → Type 0
  Answered Clash.None = Conflicting → ⊥
  Answered (Clash.Branches window first second) = LeastWindow window × FirstTwo window first second
  Answered (Clash.Passes window) = LeastWindow window × ((is : List ℕ) → (held ws).node i ≡ alternative is → ⊥)
