use Prim.Native.Nat.{◌≤◌}
use mathlib.Core.Path.{◌≡◌}
use lib.ListN.{get_or}
use lib.Bits.{bit_or}
use Rattle.lookahead.specs.Inner.{Filled}
use Rattle.lookahead.proofs.union.Given as goal

abbrev pub invariant-loop-i : goal.invariant-loop-i
invariant-loop-i l = Filled (λ k w. w ≡ bit_or (get_or l.x k 0) (get_or l.y k 0)) l.i l.out × (l.i ≤ 8)
