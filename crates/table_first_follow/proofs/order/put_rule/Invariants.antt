use lib.ListN.{length}
use mathlib.Core.Path.{◌≡◌}
use Rattle.table_first_follow.proofs.order.put_rule.Given as goal

abbrev pub invariant-loop-i : goal.invariant-loop-i
invariant-loop-i l = length l.order ≡ length l.initial.order

abbrev pub decreases-loop-i : goal.decreases-loop-i
decreases-loop-i l = l.i
