use Prim.Native.Nat.{◌+◌, ◌*◌, ◌-◌, ◌≤◌}
use mathlib.Core.Path.{◌≡◌}
use lib.ListN.{length, drop}
use lib.Seq.{sets}
use Rattle.basis.specs.Limits.{max_entries}
use Rattle.run_saved.specs.Saved.{numbers, plain}
use Rattle.run_saved.proofs.read_words.Given as goal

abbrev pub invariant-loop-i : goal.invariant-loop-i
invariant-loop-i l = (l.i ≤ max_entries) × (length l.words ≡ max_entries) × (numbers plain 4 max_entries (drop l.at l.bytes) ≡ sets l.words l.i (numbers plain 4 (max_entries - l.i) (drop (l.at + 4 * l.i) l.bytes)))
