use Prim.Native.Nat.{◌≤◌}
use Rattle.report_clashes.proofs.changes.branches.Given as goal

abbrev pub invariant-loop-i : goal.invariant-loop-i
invariant-loop-i l = l.n ≤ l.i
