use Prim.Native.Nat.{◌+◌, ◌-◌, ◌^◌, ◌≤◌, ◌<◌}
use mathlib.Core.Path.{◌≡◌}
use lib.ListN.{drop}
use Rattle.run_saved.specs.Saved.{number}
use Rattle.run_saved.proofs.read.Given as goal

abbrev pub invariant-loop-left : goal.invariant-loop-left
invariant-loop-left l = (l.left ≤ l.width) × (l.n ≡ number (l.width - l.left) (drop (l.at + l.left) l.bytes)) × (l.n < 256 ^ (l.width - l.left))
