use Rattle.report_faults.specs.Faults.{node_at}
use Rattle.text_names.proofs.Loops.{least_start, least_turn, least_end}
use Rattle.report_faults.proofs.faults.node_at.Goals as goal

pub loop-j-init : goal.loop-j-init
loop-j-init c = least_start

pub node_if-requires : goal.node_if-requires
node_if-requires c = c.requires

pub loop-j-preserved : goal.loop-j-preserved
loop-j-preserved c = least_turn c.loop-j.invariant c.loop-j-test.true c.node_if.ensures c.min-least.ensures

pub returns : goal.returns
unfolding node_at
returns c = least_end c.loop-j.invariant c.loop-j-test.false
