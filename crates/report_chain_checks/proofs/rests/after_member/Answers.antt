use native.Mathlib.Omega.{arith}
use Prim.Native.Nat.{◌+◌}
use mathlib.Core.Path.{refl, sym, ◌∙◌}
use Rattle.report_chain_steps.specs.Replayed.{stack}
use Rattle.report_chain_steps.proofs.Rules.{moved_member, moved_to}
use Rattle.report_chain_checks.proofs.rests.after_member.Goals as goal

pub overflow_add-p : goal.overflow_add-p
overflow_add-p c = omega (arith, c.requires)

pub has_part-requires : goal.has_part-requires
has_part-requires c = c.end_of-end.ensures.1

pub others_after-requires : goal.others_after-requires
others_after-requires c = c.end_of-end.ensures.1

pub overflow_add-result : goal.overflow_add-result
overflow_add-result c = omega (arith, (c.has_part.ensures c.if-has_part.true).0, c.end_of-end.ensures.1)

pub returns-in-Concatenation : goal.returns-in-Concatenation
returns-in-Concatenation c =
    let a = c.args in
    let is = stack a.table.now a.items.now a.depth in
    let p = c.has_part.ensures c.if-has_part.true in
    λ h.
    moved_to a.table.now is a.p a.m (a.m + 1) _ refl
    (moved_member a.table.now a.p c.requires is _ c.end_of-end.result a.m p.1.0 (sym c.construct_at.ensures ∙ c.in-Concatenation.is) c.end_of-end.ensures.0 p.1.1 (c.others_after.ensures c.if-others_after.true p.0))

pub returns-in_default : goal.returns-in_default
returns-in_default c = λ h. absurd (omega (arith, h))

pub returns-else-others_after : goal.returns-else-others_after
returns-else-others_after c = λ h. absurd (omega (arith, h))

pub returns-else-has_part : goal.returns-else-has_part
returns-else-has_part c = λ h. absurd (omega (arith, h))
