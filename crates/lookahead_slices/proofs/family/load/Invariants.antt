use Prim.Native.Nat.{◌+◌, ◌*◌, ◌≤◌}
use mathlib.Core.Path.{◌≡◌}
use lib.ListN.{get_or}
use Rattle.lookahead.specs.Inner.{Filled}
use Rattle.lookahead_slices.proofs.family.load.Given as goal

abbrev pub invariant-loop-k : goal.invariant-loop-k
invariant-loop-k l = Filled (λ m w. w ≡ get_or l.family (8 * l.i + m) 0) l.k l.words × (l.k ≤ 8)
