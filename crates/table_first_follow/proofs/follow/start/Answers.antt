use Rattle.table_first_follow.proofs.RoundLaws.{started_here, started_elsewhere}
use Rattle.table_first_follow.proofs.follow.start.Goals as goal

pub returns-then-i-eq-OPENING : goal.returns-then-i-eq-OPENING
returns-then-i-eq-OPENING c = started_here c.args.i c.single.result.words c.if-i-eq-OPENING.true c.single.ensures

pub returns : goal.returns
returns c = started_elsewhere c.args.i c.empty.result.words c.if-i-eq-OPENING.false c.empty.ensures
