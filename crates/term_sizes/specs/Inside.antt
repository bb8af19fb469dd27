-- Refusal 8, "variables at their widest": values that are no larger than the sizes which calculations are measured with.
-- Assumes nothing.
use Rattle.std.specs.Prelude.{ℕ, ◌≤◌, ◌<◌, ◌≡◌, List, ℤ, pos, nat_abs, length, get_or}

-- a number is no larger than its size
pub record Below (a z : ℤ) : Type 0 where
  pub size : ℕ
  pub is : z ≡ pos size
  pub le : nat_abs a ≤ size

-- each variable's value is below its size
pub record Inside (env widest : List ℤ) : Type 0 where
  pub same : length env ≡ length widest
  pub each : (k : ℕ) → k < length widest → Below (get_or env k (pos 0)) (get_or widest k (pos 0))
