use Rattle.text_syntax.proofs.Chains.{switch_ends, switch_end_fault}
use Rattle.text_syntax.proofs.expressions.switch_end.Goals as goal

-- src/expressions.rt:149:9
pub returns-then-c-eq93 : goal.returns-then-c-eq93
returns-then-c-eq93 c = switch_ends c.args.p c.args.i c.if-c-eq93.true c.insert_node.ensures.0 c.insert_node.ensures.1 c.passed.ensures

-- src/expressions.rt:145:1
pub returns : goal.returns
returns c = switch_end_fault c.args.p c.args.i c.if-c-eq93.false c.failed.ensures
