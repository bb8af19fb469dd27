use Prim.Native.Nat.{◌+◌, ◌*◌, ◌-◌, ◌≤◌}
use mathlib.Core.Path.{◌≡◌}
use lib.ListN.{length, drop}
use lib.Seq.{sets}
use Rattle.run_saved.specs.Saved.{listed, plain}
use Rattle.run_saved.proofs.write_words.Given as goal

abbrev pub invariant-loop-i : goal.invariant-loop-i
invariant-loop-i l = (l.i ≤ length l.words) × (length l.out ≡ length l.initial.out) × (sets l.initial.out l.at (listed plain 4 l.words) ≡ sets l.out (l.at + 4 * l.i) (listed plain 4 (drop l.i l.words)))
