use native.Mathlib.Omega.{arith}
use mathlib.Core.Path.{sym, ◌∙◌}
use Rattle.report_chain_steps.specs.Replayed.{stack}
use Rattle.report_chain_steps.proofs.Rules.{made_eod}
use Rattle.report_chain_steps.proofs.constructs.of_eod.Goals as goal

pub returns-in-Eod : goal.returns-in-Eod
returns-in-Eod c =
    let a = c.args in
    let is = stack a.table.now a.items.now a.depth in
    λ h. made_eod a.table.now a.i c.requires is (sym c.construct_at.ensures ∙ c.in-Eod.is)

pub returns-in_default : goal.returns-in_default
returns-in_default c = λ h. absurd (omega (arith, h))
