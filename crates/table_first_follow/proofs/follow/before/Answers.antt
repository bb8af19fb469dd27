use mathlib.Core.Bool.{Bool}
use mathlib.Core.Path.{sym, subst}
use Rattle.lookahead.proofs.PassLaws.{is_joined}
use Rattle.lookahead.specs.Sets.{Has, Is}
use Rattle.table_first_follow.specs.Follows.{Before}
use Rattle.table_first_follow.specs.Rounds.{strings}
use Rattle.table_first_follow.proofs.follow.before.Goals as goal

pub returns-then-joined : goal.returns-then-joined
returns-then-joined c =
    let a = c.args in
    subst (λ (j : Bool). Is c.join.result.words (Before j (strings a.first.now a.m) (Has a.tail.words))) (sym c.if-joined.true)
    (is_joined c.join.result.words c.set_of.result.words a.tail.words (strings a.first.now a.m) (Has a.tail.words) c.set_of.ensures.strings (λ s. ((λ h. h), (λ h. h))) c.join.ensures)

pub returns : goal.returns
returns c =
    let a = c.args in
    subst (λ (j : Bool). Is a.tail.words (Before j (strings a.first.now a.m) (Has a.tail.words))) (sym c.if-joined.false)
    (record { strings = λ s. ((λ h. h), (λ h. h)); proper = c.requires.1 })
