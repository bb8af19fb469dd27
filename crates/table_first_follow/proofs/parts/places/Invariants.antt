use Prim.Native.Nat.{◌-◌, ◌≤◌}
use mathlib.Core.List.{◌∷◌}
use mathlib.Core.Path.{◌≡◌, ◌∙◌}
use Rattle.basis.specs.Limits.{max_constructs}
use Rattle.table_first_follow.specs.Parts.{siblings}
use Rattle.table_first_follow.proofs.PartLaws.{Placing}
use Rattle.table_first_follow.proofs.parts.places.Given as goal

abbrev pub invariant-loop-at : goal.invariant-loop-at
invariant-loop-at l = Placing (siblings l.table l.start l.end) l.n l.out (siblings l.table l.at l.end) × (l.n ≤ l.at) × (l.n ≤ max_constructs)

abbrev pub decreases-loop-at : goal.decreases-loop-at
decreases-loop-at l = l.end - l.at
