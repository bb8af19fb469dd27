use Rattle.table_first_follow.proofs.follow.push_any.Goals as goal

pub push-requires : goal.push-requires
push-requires c =
    let p = c.requires in
    (c.if-i-lt-SETS_HELD.true, p.0, p.1, p.2)

pub returns-then-i-lt-SETS_HELD : goal.returns-then-i-lt-SETS_HELD
returns-then-i-lt-SETS_HELD c = c.push.ensures.keeps c.requires.2
