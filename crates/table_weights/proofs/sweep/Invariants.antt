use lib.ListN.{length}
use Prim.Native.Nat.{◌≤◌}
use mathlib.Core.Path.{◌≡◌, ◌∙◌}
use mathlib.Core.Bool.{false}
use Rattle.basis.specs.Limits.{max_constructs}
use Rattle.table_weights.specs.Sweeps.{swept}
use Rattle.table_weights.proofs.sweep.Given as goal

abbrev pub invariant-loop-i : goal.invariant-loop-i
invariant-loop-i l = (swept l.table l.i l.weights ≡ swept l.table l.n l.initial.weights) × (length l.weights ≡ max_constructs) × (l.i ≤ max_constructs) × (l.changed ≡ false → l.weights ≡ l.initial.weights)

abbrev pub decreases-loop-i : goal.decreases-loop-i
decreases-loop-i l = l.i
