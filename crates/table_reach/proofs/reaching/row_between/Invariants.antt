use Prim.Native.Nat.{ℕ, ◌≤◌, ◌<◌, max}
use mathlib.Core.Path.{◌≡◌}
use Rattle.basis.specs.Limits.{max_rules}
use Rattle.lookahead.specs.Sets.{bit}
use Rattle.table_reach.specs.Closure.{uses_between}
use Rattle.table_reach.proofs.reaching.row_between.Given as goal

abbrev pub invariant-loop-i : goal.invariant-loop-i
invariant-loop-i l = ((q : ℕ) → q < max_rules → max (bit l.row q) (uses_between l.table l.i l.end q) ≡ uses_between l.table l.first l.end q) × (l.first ≤ l.i)
