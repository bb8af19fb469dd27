use Rattle.report_further.specs.Further.{rule_from}
use Rattle.text_names.proofs.Loops.{Least}
use Rattle.report_further.proofs.further.next_fault.Given as goal

abbrev pub invariant-loop-k : goal.invariant-loop-k
invariant-loop-k l = Least 0 l.count (rule_from l.start l.text l.nodes l.terms l.rules l.count) l.least l.k
