use Rattle.std.specs.Prelude.{Some}
use Rattle.lookahead.specs.Sets.{Has, Union, Joined}
use Rattle.lookahead.specs.Least.{LeastCommon}
use Rattle.lookahead.proofs.PassLaws.{is_map}
use Rattle.lookahead.proofs.LongLaws.{joined_long, long_joined}
use Rattle.lookahead.proofs.join_long.Goals as goal

pub returns-in-Some : goal.returns-in-Some
returns-in-Some c =
    let a = c.args in
    let h : LeastCommon a.b.words a.b.words (Some _) = c.in-Some.ensures in
    let z = c.requires in
    is_map c.union.result.words (Union (Has a.a.words) (Has a.a.words)) (Joined (Has a.a.words) (Has a.b.words))
    (λ s. (joined_long a.a.words a.b.words z h.0.0 h.0.2 s, long_joined a.a.words a.b.words z s))
    c.union.ensures
