use Rattle.lookahead.proofs.join.Goals as goal

pub join_long-requires : goal.join_long-requires
join_long-requires c = c.only_long.ensures c.if-only_long.true
