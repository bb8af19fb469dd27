use mathlib.Core.Path.{subst}
use Rattle.table_reach.specs.Reaching.{Covered}
use Rattle.table_judge.proofs.judge_reach.Goals as goal

pub returns-in-None : goal.returns-in-None
returns-in-None c = subst (Covered c.args.table.now) c.in-None.is c.unreached_rule.ensures

pub returns-in-Some : goal.returns-in-Some
returns-in-Some c = (c.requires.0, c.requires.1, subst (Covered c.args.table.now) c.in-Some.is c.unreached_rule.ensures)
