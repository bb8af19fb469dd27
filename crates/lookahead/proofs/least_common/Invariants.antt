use Prim.Native.Nat.{◌*◌, ◌≤◌}
use Rattle.lookahead.proofs.LeastLaws.{Apart}
use Rattle.lookahead.proofs.least_common.Given as goal

abbrev pub invariant-loop-i : goal.invariant-loop-i
invariant-loop-i l = Apart l.x l.y (64 * l.i) × (l.i ≤ 8)
