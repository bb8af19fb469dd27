use Rattle.lookahead.proofs.PassLaws.{is_at_least}
use Rattle.lookahead.specs.Sets.{Has}
use Rattle.lookahead.proofs.passes.at_least.Goals as goal

pub returns : goal.returns
returns c =
    let a = c.args in
    is_at_least (Has a.body.words) c.few.result.words a.low c.capped.result c.capped.ensures c.few.ensures
