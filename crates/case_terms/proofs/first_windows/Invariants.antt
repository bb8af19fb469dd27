use Prim.Native.Nat.{◌≤◌}
use Rattle.case_terms.proofs.first_windows.Given as goal

abbrev pub invariant-loop-number : goal.invariant-loop-number
invariant-loop-number l = l.count ≤ l.number
