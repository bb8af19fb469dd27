use Prim.Native.Nat.{◌≤◌, ◌-◌}
use Rattle.case_lookahead.proofs.show.Given as goal

abbrev pub invariant-loop-i : goal.invariant-loop-i
invariant-loop-i l = l.i ≤ 8
