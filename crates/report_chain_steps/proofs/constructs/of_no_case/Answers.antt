use native.Mathlib.Omega.{arith}
use mathlib.Core.Path.{sym, ◌∙◌}
use Rattle.report_chain_steps.specs.Replayed.{stack}
use Rattle.report_chain_steps.proofs.Rules.{made_no_case}
use Rattle.report_chain_steps.proofs.constructs.of_no_case.Goals as goal

pub returns-then-no_default : goal.returns-then-no_default
returns-then-no_default c =
    let a = c.args in
    let is = stack a.table.now a.items.now a.depth in
    λ h. made_no_case a.table.now a.i c.requires is _ c.end_of.result (sym c.construct_at.ensures ∙ c.in-Switch.is) c.end_of.ensures.0 (sym c.no_default.ensures ∙ c.if-no_default.true)

pub returns-else-no_default : goal.returns-else-no_default
returns-else-no_default c = λ h. absurd (omega (arith, h))

pub returns-in_default : goal.returns-in_default
returns-in_default c = λ h. absurd (omega (arith, h))
