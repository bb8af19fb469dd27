use native.Mathlib.Omega.{arith}
use Prim.Native.Nat.{◌+◌}
use mathlib.Core.Path.{sym, ◌∙◌}
use Rattle.report_chain_steps.specs.Replayed.{stack}
use Rattle.report_chain_steps.proofs.Rules.{moved_last_pass, moved_to, bottom}
use Rattle.report_chain_checks.proofs.rests.after_last_pass.Goals as goal

pub returns-in-Repetition : goal.returns-in-Repetition
returns-in-Repetition c =
    let a = c.args in
    let is = stack a.table.now a.items.now a.depth in
    λ h. moved_to a.table.now is a.p (a.p + 1) (a.p + 2) _ (omega arith) (moved_last_pass a.table.now a.p c.requires is _ _ (sym c.construct_at.ensures ∙ c.in-Repetition.is) (bottom a.table.now a.items.now a.depth c.if-depth-eq0.true))

pub returns-in_default : goal.returns-in_default
returns-in_default c = λ h. absurd (omega (arith, h))

pub returns-else-depth-eq0 : goal.returns-else-depth-eq0
returns-else-depth-eq0 c = λ h. absurd (omega (arith, h))
