use Prim.Native.Nat.{◌-◌}
use mathlib.Core.List.Memᴰ
use mathlib.Core.List.{◌∷◌}
use mathlib.Core.Path.{◌≡◌, ◌∙◌}
use Rattle.table_first_follow.specs.Rounds.{strings}
use Rattle.table_first_follow.specs.Parts.{siblings}
use Rattle.table_conflicts.proofs.Lows.{Seeking}
use Rattle.table_conflicts.proofs.windows.holder.Given as goal

abbrev pub invariant-loop-at : goal.invariant-loop-at
invariant-loop-at l = Seeking (strings l.family) (siblings l.table l.start l.end) l.from l.n l.end l.at (siblings l.table l.at l.end)

abbrev pub decreases-loop-at : goal.decreases-loop-at
decreases-loop-at l = l.end - l.at
