use Rattle.table_reach.specs.Closure.{uses}
use Rattle.table_reach.proofs.reaching.rows_of.Goals as goal

pub returns : goal.returns
returns c = c.close.ensures (uses c.args.table.now) c.fill.ensures
