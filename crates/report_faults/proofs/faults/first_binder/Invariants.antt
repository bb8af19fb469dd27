use Rattle.report_faults.specs.Faults.{binder_if}
use Rattle.text_names.proofs.Loops.{Least}
use Rattle.report_faults.proofs.faults.first_binder.Given as goal

abbrev pub invariant-loop-j : goal.invariant-loop-j
invariant-loop-j l = Least l.a l.e (binder_if l.text l.nodes l.p) l.least l.j
