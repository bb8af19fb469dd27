use Prim.Native.Nat.{◌≤◌}
use lib.ListN.{length}
use mathlib.Core.Path.{◌≡◌}
use Rattle.table_first_follow.proofs.order.place_ready.Given as goal

abbrev pub invariant-loop-r : goal.invariant-loop-r
invariant-loop-r l = (length l.order ≡ length l.initial.order) × (l.r ≤ 64)

abbrev pub decreases-loop-r : goal.decreases-loop-r
decreases-loop-r l = l.r
