use Prim.Native.Nat.{◌-◌}
use mathlib.Core.Path.{◌≡◌}
use Rattle.run_actions.specs.Acts.{branch_act}
use Rattle.run_actions.proofs.branch.Given as goal

abbrev pub invariant-loop-j : goal.invariant-loop-j
invariant-loop-j l = branch_act l.table l.n l.j l.end ≡ branch_act l.table l.n l.start l.end

abbrev pub decreases-loop-j : goal.decreases-loop-j
decreases-loop-j l = l.end - l.j
