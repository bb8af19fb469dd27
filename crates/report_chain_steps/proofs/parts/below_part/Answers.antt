use native.Mathlib.Omega.{arith}
use Rattle.report_chain_steps.proofs.Rules.{found_part}
use Rattle.report_chain_steps.proofs.parts.below_part.Goals as goal

pub returns-then-has_part : goal.returns-then-has_part
returns-then-has_part c =
    let a = c.args in
    let p = c.has_part.ensures c.if-has_part.true in
    λ h. (c.number_at-b.result, found_part a.table.now a.start a.end c.number_at-b.result p.1.0 p.0 p.1.1, (c.below_top.ensures h).1 a.table.now)

pub returns : goal.returns
returns c = λ h. absurd (omega (arith, h))
