use native.Mathlib.Omega.{arith}
use mathlib.Core.Path.{sym, ◌∙◌}
use Rattle.report_chain_steps.specs.Replayed.{stack}
use Rattle.report_chain_steps.proofs.Rules.{made_use}
use Rattle.report_chain_steps.proofs.constructs.of_use.Goals as goal

pub returns-then-body-lt256 : goal.returns-then-body-lt256
returns-then-body-lt256 c =
    let a = c.args in
    let is = stack a.table.now a.items.now a.depth in
    λ h. made_use a.table.now a.i c.requires is (stack a.table.now a.items.now c.below_top.result) _ c.body_of-body.result (sym c.construct_at.ensures ∙ c.in-Use.is) (c.body_of-body.ensures c.if-body-lt256.true) ((c.below_top.ensures h).1 a.table.now)

pub returns-else-body-lt256 : goal.returns-else-body-lt256
returns-else-body-lt256 c = λ h. absurd (omega (arith, h))

pub returns-in_default : goal.returns-in_default
returns-in_default c = λ h. absurd (omega (arith, h))
