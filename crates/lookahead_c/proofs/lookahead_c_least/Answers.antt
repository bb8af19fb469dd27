use Rattle.lookahead_c.proofs.CallLaws.{least_or}
use Rattle.lookahead_c.proofs.lookahead_c_least.Goals as goal

pub returns : goal.returns
returns c = least_or c.args.sets.now _ _ c.load.ensures c.load-2.ensures _ _ c.if-sets-lt16.false c.least_common.ensures c.unwrap_or.ensures
