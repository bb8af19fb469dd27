use Prim.Native.Nat.{◌-◌}
use mathlib.Core.List.Memᴰ
use mathlib.Core.List.{◌∷◌}
use mathlib.Core.Path.{◌≡◌, ◌∙◌}
use Rattle.table_first_follow.specs.Rounds.{strings}
use Rattle.table_first_follow.specs.Parts.{siblings}
use Rattle.table_conflicts.proofs.Lows.{Sharing}
use Rattle.table_conflicts.proofs.windows.least_shared.Given as goal

abbrev pub invariant-loop-at : goal.invariant-loop-at
invariant-loop-at l = Sharing (strings l.family) (siblings l.table l.start l.end) l.seen.words l.least l.at (siblings l.table l.at l.end)

abbrev pub decreases-loop-at : goal.decreases-loop-at
decreases-loop-at l = l.end - l.at
