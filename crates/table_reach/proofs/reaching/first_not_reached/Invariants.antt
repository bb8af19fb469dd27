use Prim.Native.Nat.{ℕ, ◌≤◌, ◌<◌}
use mathlib.Core.Path.{◌≡◌}
use mathlib.Core.Bool.{true}
use Rattle.table_reach.specs.Closure.{from_start}
use Rattle.table_reach.proofs.reaching.first_not_reached.Given as goal

abbrev pub invariant-loop-r : goal.invariant-loop-r
invariant-loop-r l = ((q : ℕ) → q < l.r → 1 ≤ q → from_start l.rows q ≡ true) × (1 ≤ l.r)
