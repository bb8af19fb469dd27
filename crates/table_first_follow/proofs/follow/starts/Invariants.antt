use Prim.Native.Nat.{◌-◌, ◌≤◌}
use mathlib.Core.Path.{◌∙◌}
use Rattle.table_first_follow.specs.Sets.{sets_held}
use Rattle.table_first_follow.specs.Follows.{Started}
use Rattle.table_first_follow.proofs.RoundLaws.{Planted}
use Rattle.table_first_follow.proofs.follow.starts.Given as goal

abbrev pub invariant-loop-i : goal.invariant-loop-i
invariant-loop-i l = Planted Started l.i l.family × (l.i ≤ sets_held)
