use Prim.Native.Nat.{◌≤◌}
use mathlib.Core.Path.{◌≡◌}
use Rattle.basis.specs.Limits.{max_entries}
use Rattle.run_grants.specs.Runs.{entries_fit}
use Rattle.run_grants.proofs.entries_fit.Given as goal

abbrev pub invariant-loop-left : goal.invariant-loop-left
invariant-loop-left l = (l.left ≤ max_entries) × (entries_fit l.table l.bits l.constructs l.passes l.left ≡ entries_fit l.table l.bits l.constructs l.passes l.count)
