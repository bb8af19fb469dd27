use Rattle.text_syntax.proofs.Chains.{case_ends}
use Rattle.text_syntax.proofs.expressions.case_end.Goals as goal

-- src/expressions.rt:103:1
pub returns : goal.returns
returns c = case_ends c.args.i c.args.from c.args.end c.put_condition.ensures c.want.ensures.0
