use Prim.Native.Nat.{◌≤◌, ◌-◌}
use Rattle.case_form.proofs.form.changes.Given as goal

abbrev pub invariant-loop-k : goal.invariant-loop-k
invariant-loop-k l = l.k ≤ 16384
