use Prim.Native.Nat.{◌-◌, ◌≤◌}
use Rattle.case_form.proofs.reach.chain.Given as goal

abbrev pub invariant-loop-r : goal.invariant-loop-r
invariant-loop-r l = l.r ≤ 63
