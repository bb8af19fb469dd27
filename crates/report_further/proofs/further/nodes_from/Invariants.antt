use Rattle.report_further.specs.Further.{node_from}
use Rattle.text_names.proofs.Loops.{Least}
use Rattle.report_further.proofs.further.nodes_from.Given as goal

abbrev pub invariant-loop-i : goal.invariant-loop-i
invariant-loop-i l = Least l.a l.e (node_from l.start l.text l.nodes l.terms l.rules l.count l.a l.e) l.least l.i
