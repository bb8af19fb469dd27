use Rattle.report_further.specs.Further.{term_from}
use Rattle.text_names.proofs.Loops.{Least}
use Rattle.report_further.proofs.further.list_from.Given as goal

abbrev pub invariant-loop-t : goal.invariant-loop-t
invariant-loop-t l = Least l.f l.g (term_from l.start l.text l.nodes l.terms l.a l.i) l.least l.t
