use Prim.Native.Nat.{◌+◌, ◌*◌, ◌-◌, ◌≤◌}
use mathlib.Core.Path.{◌≡◌}
use lib.ListN.{length, drop}
use lib.Seq.{sets}
use Rattle.run_saved.specs.Saved.{listed, pattern}
use Rattle.run_saved.proofs.write_values.Given as goal

abbrev pub invariant-loop-i : goal.invariant-loop-i
invariant-loop-i l = (l.i ≤ length l.values) × (length l.out ≡ length l.initial.out) × (sets l.initial.out l.at (listed pattern 8 l.values) ≡ sets l.out (l.at + 8 * l.i) (listed pattern 8 (drop l.i l.values)))
