use Prim.Native.Nat.{◌-◌, ◌≤◌}
use mathlib.Core.Path.{◌≡◌, ◌∙◌}
use Rattle.basis.specs.Limits.{max_constructs}
use Rattle.text_admission.proofs.Marking.{Marking}
use Rattle.text_admission.proofs.marks.least_mark.Given as goal

abbrev pub invariant-loop-i : goal.invariant-loop-i
invariant-loop-i l = Marking l.nodes l.table l.i l.least × (l.i ≤ l.count) × (l.count ≤ max_constructs)
