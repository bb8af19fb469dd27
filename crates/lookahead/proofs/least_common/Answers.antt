use borrow.Author.Rules.{rules}
use mathlib.Core.Path.{refl}
use native.Mathlib.Omega.{arith}
use Rattle.lookahead.proofs.SetLaws.{cleared}
use Rattle.lookahead.proofs.LeastLaws.{apart_more, least_none, least_found}
use Rattle.lookahead.proofs.least_common.Goals as goal

pub loop-i-init : goal.loop-i-init
loop-i-init c = ((λ n h. absurd (omega arith)), search rules)

pub overflow_add-result : goal.overflow_add-result
overflow_add-result c = omega (arith, c.trailing_zeros.ensures.within)

pub returns-then-w-gt0 : goal.returns-then-w-gt0
returns-then-w-gt0 c =
    let a = c.args in
    least_found a.a.words _ a.b.words (cleared a.a.words c.even.result c.even.ensures)
    c.loop-i.i c.trailing_zeros.result _ (search rules) refl c.trailing_zeros.ensures
    c.loop-i.invariant.0

pub loop-i-preserved : goal.loop-i-preserved
loop-i-preserved c = (apart_more _ _ c.loop-i.i _ refl (search rules) c.loop-i.invariant.0, search rules)

pub returns : goal.returns
returns c =
    let a = c.args in
    least_none a.a.words _ a.b.words (cleared a.a.words c.even.result c.even.ensures)
    (λ n h. c.loop-i.invariant.0 n (omega arith))
