use Rattle.lookahead_c.proofs.CallLaws.{made}
use Rattle.lookahead.specs.Sets.{Joined}
use Rattle.lookahead_c.proofs.lookahead_c_join.Goals as goal

pub returns : goal.returns
returns c =
    made Joined c.args.sets.now c.store.new.family c.load-a.result.words c.load-b.result.words c.join.result.words c.if-sets-lt24.false
    c.load-a.ensures c.load-b.ensures c.join.ensures c.store.ensures
