use Prim.Native.Nat.{ℕ, ◌-◌, ◌<◌}
use mathlib.Core.Path.{◌≡◌}
use mathlib.Core.List.{List, ◌++◌}
use Rattle.table_first_follow.specs.Parts.{siblings}
use Rattle.report_chain_steps.specs.Replayed.{no_depth, stack}
use Rattle.report_chain_steps.proofs.parts.below_parts.Given as goal

abbrev pub invariant-loop-at : goal.invariant-loop-at
invariant-loop-at l = l.d < no_depth → (is : List ℕ) → stack l.table l.items l.d ≡ siblings l.table l.at l.end ++ is → stack l.table l.items l.depth ≡ siblings l.table l.start l.end ++ is

abbrev pub decreases-loop-at : goal.decreases-loop-at
decreases-loop-at l = l.end - l.at
