use Rattle.table_first_follow.proofs.first.apply_any.Goals as goal

pub apply-requires : goal.apply-requires
apply-requires c = (c.requires.size, c.if-i-lt-SETS_HELD.true)

pub returns-then-i-lt-SETS_HELD : goal.returns-then-i-lt-SETS_HELD
returns-then-i-lt-SETS_HELD c = c.apply.ensures.keeps c.requires
