use Prim.Native.Nat.{◌-◌}
use mathlib.Core.Path.{◌≡◌}
use Rattle.table_wellformed.specs.Lists.{lists_from}
use Rattle.table_wellformed.proofs.lists.lists.Given as goal

abbrev pub invariant-loop-i : goal.invariant-loop-i
invariant-loop-i l = lists_from (l.count - l.i) l.table l.i l.p ≡ lists_from l.count l.table 0 0
