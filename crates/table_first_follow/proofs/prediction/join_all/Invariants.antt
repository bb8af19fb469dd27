use Prim.Native.Nat.{◌-◌, ◌≤◌}
use mathlib.Core.Path.{◌∙◌}
use Rattle.table_first_follow.specs.Sets.{sets_held}
use Rattle.table_first_follow.specs.Follows.{Predicting}
use Rattle.table_first_follow.proofs.RoundLaws.{Planted}
use Rattle.table_first_follow.proofs.prediction.join_all.Given as goal

abbrev pub invariant-loop-i : goal.invariant-loop-i
invariant-loop-i l = Planted (Predicting l.first l.follow) l.i l.family × (l.i ≤ sets_held)
