use Rattle.text_names.proofs.Loops.{least_start, least_turn, least_end}
use Rattle.report_further.proofs.further.list_from.Goals as goal

pub loop-t-init : goal.loop-t-init
loop-t-init c = least_start

pub term_from-requires : goal.term_from-requires
term_from-requires c = c.requires

pub loop-t-preserved : goal.loop-t-preserved
loop-t-preserved c = least_turn c.loop-t.invariant c.loop-t-test.true c.term_from.ensures c.min-least.ensures

pub returns : goal.returns
returns c = least_end c.loop-t.invariant c.loop-t-test.false
