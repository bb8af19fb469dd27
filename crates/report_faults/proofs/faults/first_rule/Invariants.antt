use Rattle.report_faults.specs.Faults.{rule_if}
use Rattle.text_names.proofs.Loops.{Least}
use Rattle.report_faults.proofs.faults.first_rule.Given as goal

abbrev pub invariant-loop-j : goal.invariant-loop-j
invariant-loop-j l = Least 0 l.count (rule_if l.text l.rules l.p) l.least l.j
