use Rattle.basis.specs.Limits.{max_variables}
use Prim.Native.Nat.{◌+◌, ◌*◌, ◌-◌, ◌≤◌}
use mathlib.Core.Path.{◌≡◌}
use lib.ListN.{length, drop}
use lib.Seq.{sets}
use Rattle.run_saved.specs.Saved.{numbers, whole}
use Rattle.run_saved.proofs.read_values.Given as goal

abbrev pub invariant-loop-i : goal.invariant-loop-i
invariant-loop-i l = (l.i ≤ max_variables) × (length l.values ≡ max_variables) × (numbers whole 8 max_variables (drop l.at l.bytes) ≡ sets l.values l.i (numbers whole 8 (max_variables - l.i) (drop (l.at + 8 * l.i) l.bytes)))
