use Rattle.report_faults.specs.Faults.{first_binder}
use Rattle.text_names.proofs.Loops.{least_start, least_turn, least_end}
use Rattle.report_faults.proofs.faults.first_binder.Goals as goal

pub loop-j-init : goal.loop-j-init
loop-j-init c = least_start

pub binder_if-requires : goal.binder_if-requires
binder_if-requires c = c.requires

pub loop-j-preserved : goal.loop-j-preserved
loop-j-preserved c = least_turn c.loop-j.invariant c.loop-j-test.true c.binder_if.ensures c.min-least.ensures

pub returns : goal.returns
unfolding first_binder
returns c = least_end c.loop-j.invariant c.loop-j-test.false
