use lib.ListN.{get_or}
use Prim.Native.Nat.{◌-◌, ◌≤◌, ◌+◌}
use mathlib.Core.Path.{◌∙◌}
use Rattle.basis.specs.Limits.{max_weight}
use Rattle.table_weights.proofs.Parts.{Gathering}
use Rattle.table_weights.proofs.gather.Given as goal

abbrev pub invariant-loop-j : goal.invariant-loop-j
invariant-loop-j l = Gathering l.table (λ k. get_or l.weights k 0) l.adds l.first l.end l.j l.sum × (l.sum ≤ (max_weight + 1))

abbrev pub decreases-loop-j : goal.decreases-loop-j
decreases-loop-j l = l.end - l.j
