-- What words with a weight have passed. Only the crate's own helpers promise this.
-- Assumes nothing.
use Rattle.std.specs.Prelude.{ℕ, ◌≤◌, ◌≡◌, List}
use Rattle.basis.specs.Limits.{max_weight}
use Rattle.table_judge.specs.Judged.{Passed10, Weighing}

-- the weight is at most 65,535 (not 11)
pub record Passed11 (ws : List ℕ) (weight : ℕ) : Type 0 where
  pub passed : Passed10 ws
  pub weighs : Weighing ws (λ n. n ≡ weight)
  pub limited : weight ≤ max_weight
