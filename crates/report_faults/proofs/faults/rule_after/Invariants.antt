use Rattle.report_faults.specs.Faults.{after_if}
use Rattle.text_names.proofs.Loops.{Least}
use Rattle.report_faults.proofs.faults.rule_after.Given as goal

abbrev pub invariant-loop-k : goal.invariant-loop-k
invariant-loop-k l = Least 0 l.count (after_if l.rules l.p) l.least l.k
