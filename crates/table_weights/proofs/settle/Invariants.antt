use lib.ListN.{length}
use mathlib.Core.Path.{◌≡◌, ◌∙◌}
use Rattle.basis.specs.Limits.{max_constructs}
use Rattle.table_weights.specs.Sweeps.{settled}
use Rattle.table_weights.proofs.settle.Given as goal

abbrev pub invariant-loop-k : goal.invariant-loop-k
invariant-loop-k l = (settled l.table l.n l.k l.weights ≡ settled l.table l.n l.rounds l.initial.weights) × (length l.weights ≡ max_constructs)

abbrev pub decreases-loop-k : goal.decreases-loop-k
decreases-loop-k l = l.k
