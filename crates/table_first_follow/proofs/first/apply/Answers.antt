use Rattle.table_first_follow.proofs.RoundLaws.{first_step}
use Rattle.table_first_follow.proofs.first.apply.Goals as goal

pub returns : goal.returns
returns c =
    let a = c.args in
    first_step a.table.now a.family.now c.add.new.family a.i c.applied-set.result.words c.add.result c.requires.1 c.add.ensures c.applied-set.ensures
