use Prim.Native.Nat.{◌+◌, ◌-◌, ◌≤◌}
use mathlib.Core.Path.{◌≡◌}
use lib.ListN.{length}
use lib.Seq.{sets}
use Rattle.run_saved.specs.Saved.{bytes}
use Rattle.run_saved.proofs.write.Given as goal

abbrev pub invariant-loop-i : goal.invariant-loop-i
invariant-loop-i l = (l.i ≤ l.width) × (length l.out ≡ length l.initial.out) × (sets l.initial.out l.at (bytes l.width l.number) ≡ sets l.out (l.at + l.i) (bytes (l.width - l.i) l.n))
