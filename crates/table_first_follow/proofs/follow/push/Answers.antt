use mathlib.Core.Path.{◌≡◌}
use native.Mathlib.Omega.{arith}
use Rattle.table_layout.specs.Held.{opening}
use Rattle.table_first_follow.proofs.PushLaws.{opening_pushed}
use Rattle.table_first_follow.proofs.follow.push.Goals as goal

pub push_inside-requires : goal.push_inside-requires
push_inside-requires c =
    let p = c.requires in
    (c.if-i-lt-MAX_CONSTRUCTS.true, p.1, p.2, p.3)

pub set_of-set-requires : goal.set_of-set-requires
set_of-set-requires c = c.requires.3.size

pub give-requires : goal.give-requires
give-requires c = c.requires.3.size

pub returns : goal.returns
returns c =
    let a = c.args in
    let p = c.requires in
    let e : a.i ≡ opening = omega (arith, p.0, c.if-i-lt-MAX_CONSTRUCTS.false) in
    opening_pushed a.table.now a.first.now a.family.now p.1 p.2 p.3 a.i p.0 c.set_of-set.result.words c.set_of-set.ensures c.give.new.family c.give.result c.body_of.result e c.body_of.ensures c.give.ensures
