use Rattle.text_names.proofs.Loops.{least_start, least_turn, least_end}
use Rattle.text_names.proofs.places.nodes_place.Goals as goal

pub loop-i-init : goal.loop-i-init
loop-i-init c = least_start

pub node_place-requires : goal.node_place-requires
node_place-requires c = c.requires

pub loop-i-preserved : goal.loop-i-preserved
loop-i-preserved c = least_turn c.loop-i.invariant c.loop-i-test.true c.node_place.ensures c.min-least.ensures

pub returns : goal.returns
returns c = least_end c.loop-i.invariant c.loop-i-test.false
