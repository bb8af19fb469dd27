use Rattle.report_faults.specs.Faults.{node_if}
use Rattle.text_names.proofs.Loops.{Least}
use Rattle.report_faults.proofs.faults.node_at.Given as goal

abbrev pub invariant-loop-j : goal.invariant-loop-j
invariant-loop-j l = Least l.a l.e (node_if l.nodes l.p) l.least l.j
