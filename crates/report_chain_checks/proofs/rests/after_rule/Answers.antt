use native.Mathlib.Omega.{arith}
use Prim.Native.Nat.{◌+◌}
use mathlib.Core.Path.{sym, ◌∙◌}
use Rattle.report_chain_steps.specs.Replayed.{stack}
use Rattle.report_chain_steps.proofs.Rules.{moved_rule, moved_to, bottom}
use Rattle.report_chain_checks.proofs.rests.after_rule.Goals as goal

pub returns-then-body-lt256 : goal.returns-then-body-lt256
returns-then-body-lt256 c =
    let a = c.args in
    let is = stack a.table.now a.items.now a.depth in
    λ h. moved_to a.table.now is a.p c.body_of-body.result (c.body_of-body.result + 1) _ (omega arith) (moved_rule a.table.now a.p c.requires is _ c.body_of-body.result (sym c.construct_at.ensures ∙ c.in-Use.is) (c.body_of-body.ensures c.if-body-lt256.true) (bottom a.table.now a.items.now a.depth c.if-depth-eq0.true))

pub returns-else-body-lt256 : goal.returns-else-body-lt256
returns-else-body-lt256 c = λ h. absurd (omega (arith, h))

pub returns-in_default : goal.returns-in_default
returns-in_default c = λ h. absurd (omega (arith, h))

pub returns-else-depth-eq0 : goal.returns-else-depth-eq0
returns-else-depth-eq0 c = λ h. absurd (omega (arith, h))
