use Rattle.text_names.proofs.Loops.{least_start, least_turn, least_end}
use Rattle.text_names.proofs.places.list_place.Goals as goal

pub loop-t-init : goal.loop-t-init
loop-t-init c = least_start

pub term_place-requires : goal.term_place-requires
term_place-requires c = c.requires

pub loop-t-preserved : goal.loop-t-preserved
loop-t-preserved c = least_turn c.loop-t.invariant c.loop-t-test.true c.term_place.ensures c.min-least.ensures

pub returns : goal.returns
returns c = least_end c.loop-t.invariant c.loop-t-test.false
