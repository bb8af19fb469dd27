use Prim.Native.Nat.{◌-◌, ◌≤◌}
use mathlib.Core.Path.{◌∙◌}
use Rattle.table_first_follow.specs.Sets.{sets_held}
use Rattle.table_first_follow.specs.Rounds.{first_low}
use Rattle.table_first_follow.proofs.RoundLaws.{Planted}
use Rattle.table_first_follow.proofs.first.seeds.Given as goal

abbrev pub invariant-loop-i : goal.invariant-loop-i
invariant-loop-i l = Planted (first_low l.table) l.i l.family × (l.i ≤ sets_held)
