use Rattle.table_reach.proofs.ReachLaws.{covered}
use Rattle.table_reach.proofs.unreached_rule.Goals as goal

pub returns : goal.returns
returns c = covered c.args.table.now _ c.rows_of.ensures c.word.result c.word.ensures.0 c.first_not_reached.result c.first_not_reached.ensures
