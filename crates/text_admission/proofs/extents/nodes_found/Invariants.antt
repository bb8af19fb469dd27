use Prim.Native.Nat.{◌-◌, ◌≤◌}
use mathlib.Core.Path.{◌≡◌}
use Rattle.text_encoding.specs.Numbers.{condition_start}
use Rattle.text_admission.specs.Extents.{node_found}
use Rattle.text_admission.proofs.Leasts.{LeastYet}
use Rattle.text_admission.proofs.extents.nodes_found.Given as goal

abbrev pub invariant-loop-i : goal.invariant-loop-i
invariant-loop-i l = (l.i ≤ l.n) × (l.q ≡ condition_start l.nodes l.i) × LeastYet l.n (node_found l.text l.nodes l.terms l.table) l.least l.i
