use Prim.Native.Nat.{◌-◌}
use Rattle.report_wording.proofs.writing.bytes.Given as goal

abbrev pub invariant-loop-i : goal.invariant-loop-i
invariant-loop-i l = Unit
