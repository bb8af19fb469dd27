use Rattle.text_syntax.proofs.Chains.{chained_many, chained_one}
use Rattle.text_syntax.proofs.fields.chained.Goals as goal

pub returns-then-many : goal.returns-then-many
returns-then-many c = chained_many c.args.c c.insert_node.result c.args.nodes.now c.insert_node.new.nodes c.args.kind c.args.p c.args.i c.args.many c.if-many.true c.insert_node.ensures.0 c.insert_node.ensures.1

pub returns-else-many : goal.returns-else-many
returns-else-many c = chained_one c.args.c c.args.nodes.now c.args.kind c.args.p c.args.i c.args.many c.if-many.false
