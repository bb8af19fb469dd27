use native.Mathlib.Omega.{arith}
use Rattle.report_chain_steps.specs.Replayed.{stack}
use Rattle.report_chain_steps.proofs.Tails.{moved_rests}
use Rattle.report_chain_checks.proofs.rests.moved.Goals as goal

pub returns-then-rest-eq0 : goal.returns-then-rest-eq0
returns-then-rest-eq0 c = λ h. absurd (omega (arith, h))

pub returns-then-rest-gt256 : goal.returns-then-rest-gt256
returns-then-rest-gt256 c = λ h. absurd (omega (arith, h))

pub overflow_sub-rest : goal.overflow_sub-rest
overflow_sub-rest c = omega (arith, c.if-rest-eq0.false)

pub moved_from-requires : goal.moved_from-requires
moved_from-requires c = omega (arith, c.if-rest-eq0.false, c.if-rest-gt256.false)

pub returns : goal.returns
returns c =
    let a = c.args in
    let is = stack a.table.now a.items.now a.depth in
    λ h. moved_rests a.table.now is a.rest c.moved_from.result _ (omega (arith, c.if-rest-eq0.false)) h (c.moved_from.ensures h)
