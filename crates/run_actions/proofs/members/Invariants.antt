use Prim.Native.Nat.{◌-◌, ◌≤◌}
use mathlib.Core.Path.{◌≡◌}
use Rattle.run_actions.specs.Acts.{members_act}
use Rattle.run_actions.proofs.Parts.{members_from}
use Rattle.run_actions.proofs.members.Given as goal

abbrev pub invariant-loop-j : goal.invariant-loop-j
invariant-loop-j l = (members_from l.table l.end l.start l.j l.count ≡ members_act l.table l.start l.end) × (l.count ≤ l.j)

abbrev pub decreases-loop-j : goal.decreases-loop-j
decreases-loop-j l = l.end - l.j
