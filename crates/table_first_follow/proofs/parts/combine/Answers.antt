use mathlib.Core.Bool.{Bool}
use mathlib.Core.Path.{sym, subst}
use Rattle.lookahead.specs.Sets.{Has, Is}
use Rattle.table_first_follow.specs.Parts.{Combined}
use Rattle.table_first_follow.proofs.parts.combine.Goals as goal

pub returns-then-joined : goal.returns-then-joined
returns-then-joined c =
    let a = c.args in
    subst (λ (j : Bool). Is c.join.result.words (Combined j (Has a.a.words) (Has a.b.words))) (sym c.if-joined.true) c.join.ensures

pub returns : goal.returns
returns c =
    let a = c.args in
    subst (λ (j : Bool). Is c.union.result.words (Combined j (Has a.a.words) (Has a.b.words))) (sym c.if-joined.false) c.union.ensures
