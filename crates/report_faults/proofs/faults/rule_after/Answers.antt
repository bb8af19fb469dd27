use Rattle.report_faults.specs.Faults.{rule_after}
use Rattle.text_names.proofs.Loops.{least_start, least_turn, least_end}
use Rattle.report_faults.proofs.faults.rule_after.Goals as goal

pub loop-k-init : goal.loop-k-init
loop-k-init c = least_start

pub after_if-requires : goal.after_if-requires
after_if-requires c = c.requires

pub loop-k-preserved : goal.loop-k-preserved
loop-k-preserved c = least_turn c.loop-k.invariant c.loop-k-test.true c.after_if.ensures c.min-least.ensures

pub returns : goal.returns
unfolding rule_after
returns c = least_end c.loop-k.invariant c.loop-k-test.false
