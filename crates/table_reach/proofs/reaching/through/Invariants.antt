use Prim.Native.Nat.{◌≤◌}
use Rattle.basis.specs.Limits.{max_rules}
use Rattle.table_reach.specs.Closure.{Mended}
use Rattle.table_reach.proofs.reaching.through.Given as goal

abbrev pub invariant-loop-i : goal.invariant-loop-i
invariant-loop-i l = Mended l.initial.rows l.rows l.via l.k l.i × (l.i ≤ max_rules)
