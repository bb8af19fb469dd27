use Prim.Native.Nat.{◌-◌, ◌≤◌}
use mathlib.Core.Path.{◌≡◌}
use Rattle.table_fill.specs.Completed.{SetsWritten}
use Rattle.table_fill.proofs.write_sets.Given as goal

abbrev pub invariant-loop-i : goal.invariant-loop-i
invariant-loop-i l = SetsWritten l.initial.table l.table l.follow l.prediction l.i × (l.i ≤ l.count)
