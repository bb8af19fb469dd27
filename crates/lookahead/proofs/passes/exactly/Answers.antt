use borrow.Author.Rules.{rules}
use Rattle.lookahead.proofs.PassLaws.{no_pass, next_pass, is_min}
use native.Mathlib.Omega.{arith}
use Rattle.lookahead.specs.Sets.{Has}
use Rattle.lookahead.proofs.passes.exactly.Goals as goal

pub loop-i-init : goal.loop-i-init
loop-i-init c = (no_pass (Has c.args.body.words) c.single-out.result.words c.single-out.ensures, search rules, omega (arith, c.capped-n.ensures))

pub loop-i-preserved : goal.loop-i-preserved
loop-i-preserved c =
    let a = c.args in
    let t = c.loop-i in
    (next_pass (Has a.body.words) c.join-out.result.words a.body.words t.out.words t._i (λ s. ((λ h. h), (λ h. h))) t.invariant.0 c.join-out.ensures, search rules, search rules)

pub returns : goal.returns
returns c =
    let a = c.args in
    let t = c.loop-i in
    is_min (Has a.body.words) t.out.words a.k t._i (omega (arith, c.capped-n.ensures)) t.invariant.0
