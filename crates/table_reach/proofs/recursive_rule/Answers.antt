use Rattle.table_reach.proofs.ReachLaws.{found}
use Rattle.table_reach.proofs.recursive_rule.Goals as goal

pub returns : goal.returns
returns c = found c.args.table.now _ c.rows_of.ensures c.first_on_diagonal.result c.first_on_diagonal.ensures
