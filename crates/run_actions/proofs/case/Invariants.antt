use Prim.Native.Nat.{◌-◌}
use mathlib.Core.Path.{◌≡◌}
use Rattle.run_actions.specs.Acts.{case_act}
use Rattle.run_actions.proofs.case.Given as goal

abbrev pub invariant-loop-j : goal.invariant-loop-j
invariant-loop-j l = case_act l.table l.values l.j l.end ≡ case_act l.table l.values l.start l.end

abbrev pub decreases-loop-j : goal.decreases-loop-j
decreases-loop-j l = l.end - l.j
