use Prim.Native.Nat.{◌-◌}
use mathlib.Core.List.{◌∷◌}
use mathlib.Core.Path.{◌≡◌, ◌∙◌}
use Rattle.table_layout.specs.Held.{no_default}
use Rattle.table_first_follow.specs.Parts.{siblings}
use Rattle.table_first_follow.proofs.parts.no_default.Given as goal

abbrev pub invariant-loop-at : goal.invariant-loop-at
invariant-loop-at l = no_default l.table (siblings l.table l.at l.end) ≡ no_default l.table (siblings l.table l.start l.end)

abbrev pub decreases-loop-at : goal.decreases-loop-at
decreases-loop-at l = l.end - l.at
