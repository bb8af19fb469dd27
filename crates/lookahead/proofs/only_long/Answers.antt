use Rattle.lookahead.proofs.LongLaws.{only_four}
use Rattle.lookahead.proofs.only_long.Goals as goal

pub returns-then-x-eq0-4 : goal.returns-then-x-eq0-4
returns-then-x-eq0-4 c _ = only_four c.args.set.words c.if-x-eq0.true c.if-x-eq0-2.true c.if-x-eq0-3.true c.if-x-eq0-4.true
