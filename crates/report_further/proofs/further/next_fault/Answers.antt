use Rattle.text_names.proofs.Loops.{least_start, least_turn, least_end}
use Rattle.report_further.proofs.further.next_fault.Goals as goal

pub loop-k-init : goal.loop-k-init
loop-k-init c = least_start

pub rule_from-requires : goal.rule_from-requires
rule_from-requires c = c.requires

pub loop-k-preserved : goal.loop-k-preserved
loop-k-preserved c = least_turn c.loop-k.invariant c.loop-k-test.true c.rule_from.ensures c.min-least.ensures

pub returns : goal.returns
returns c = least_end c.loop-k.invariant c.loop-k-test.false
