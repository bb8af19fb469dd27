-- A search for the least number with a property.
-- Assumes nothing.
use Prim.Native.Nat.{ℕ, ◌<◌}
use native.Mathlib.Omega.{arith}
use Rattle.table_sizes.specs.Measures.{LeastOf}

module _ (P : ℕ → Type 0) (n : ℕ) where
  pub least_here : (r : ℕ) → r < n → P r → ((j : ℕ) → j < r → P j → ⊥) → LeastOf P n r
  least_here r h p b = record { most = omega arith; holds = λ k. p; before = b }

  pub least_none : ((j : ℕ) → j < n → P j → ⊥) → LeastOf P n n
  least_none b = record { most = omega arith; holds = λ k. absurd (omega arith); before = b }
