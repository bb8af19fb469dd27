use Rattle.lookahead_c.proofs.CallLaws.{made}
use Rattle.lookahead.specs.Sets.{Union}
use Rattle.lookahead_c.proofs.lookahead_c_union.Goals as goal

pub returns : goal.returns
returns c =
    made Union c.args.sets.now c.store.new.family c.load-a.result.words c.load-b.result.words c.union.result.words c.if-sets-lt24.false
    c.load-a.ensures c.load-b.ensures c.union.ensures c.store.ensures
