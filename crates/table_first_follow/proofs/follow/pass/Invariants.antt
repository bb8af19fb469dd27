use Prim.Native.Nat.{◌≤◌}
use lib.ListN.{length}
use mathlib.Core.Path.{◌∙◌}
use Rattle.table_first_follow.specs.Rounds.{Between, follow_low, follow_of}
use Rattle.table_first_follow.proofs.follow.pass.Given as goal

abbrev pub invariant-loop-k : goal.invariant-loop-k
invariant-loop-k l = Between (follow_low l.table) (follow_of l.table) l.family × (l.k ≤ length l.order)

abbrev pub decreases-loop-k : goal.decreases-loop-k
decreases-loop-k l = l.k
