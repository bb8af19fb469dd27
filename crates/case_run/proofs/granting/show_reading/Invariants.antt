use Prim.Native.Nat.{◌≤◌, ◌-◌}
use Rattle.case_run.proofs.granting.show_capture.Reads as show-capture-reads
use Rattle.case_run.proofs.granting.show_reading.Given as goal

abbrev pub invariant-loop-k : goal.invariant-loop-k
invariant-loop-k l = l.k ≤ 256
