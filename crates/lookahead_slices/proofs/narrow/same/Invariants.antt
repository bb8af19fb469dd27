use Prim.Native.Nat.{ℕ, ◌+◌, ◌<◌}
use mathlib.Core.Path.{◌≡◌}
use lib.ListN.{get_or}
use Rattle.lookahead_slices.specs.Narrow.{half}
use Rattle.lookahead_slices.proofs.narrow.same.Given as goal

abbrev pub invariant-loop-k : goal.invariant-loop-k
invariant-loop-k l = (m : ℕ) → m < l.k → get_or l.table (l.at + m) 0 ≡ half l.x m
