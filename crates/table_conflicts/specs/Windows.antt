-- The least windows (lookahead strings) that parts of a construct share. Only the crate's own helpers promise this.
-- Assumes nothing.
use Rattle.std.specs.Prelude.{ℕ, ◌≤◌, ◌<◌, min, ◌≡◌, ◌≢◌, cond, List, eqb}
use Rattle.basis.specs.Bits.{Bits}
use Rattle.basis.specs.Lookahead.{number}
use Rattle.theory.specs.Grammar.{◌∈◌}
use Rattle.table_first_follow.specs.Rules.{Family}
use Rattle.table_conflicts.specs.Conflicts.{HasNumber}

-- n is the least number of the strings that P names; 0 where there are none
pub record Lowest (P : Bits → Type 0) (n : ℕ) : Type 0 where
  pub none : n ≡ 0 → (x : Bits) → P x → ⊥
  pub some : 0 < n → (x : Bits) × (number x ≡ n) × P x
  pub least : (x : Bits) → P x → n ≤ number x

-- the lower of two such numbers
abbrev pub lower_of : ℕ → ℕ → ℕ
lower_of a b = cond (eqb a 0) b (cond (eqb b 0) a (min a b))

-- two of these parts have the string
pub record Shared (F : Family) (is : List ℕ) (x : Bits) : Type 0 where
  pub one : ℕ
  pub other : ℕ
  pub one_listed : one ∈ is
  pub other_listed : other ∈ is
  pub apart : one ≢ other
  pub one_has : F one x
  pub other_has : F other x

-- the first of these parts, from number `from` on, that has the string with number n; `end` where none has it
pub record FirstFrom (F : Family) (is : List ℕ) (from n end r : ℕ) : Type 0 where
  pub most : r ≤ end
  pub found : r < end → (r ∈ is) × (from ≤ r) × HasNumber F r n
  pub before : (j : ℕ) → j ∈ is → from ≤ j → j < r → HasNumber F j n → ⊥
