use native.Mathlib.Omega.{arith}
use Prim.Native.Nat.{◌+◌}
use mathlib.Core.Path.{refl, sym, ◌∙◌}
use Rattle.report_chain_steps.specs.Replayed.{stack}
use Rattle.report_chain_steps.proofs.Rules.{moved_branch, moved_case, moved_to, found_part, bottom}
use Rattle.report_chain_checks.proofs.rests.after_branch.Goals as goal

pub overflow_add-p : goal.overflow_add-p
overflow_add-p c = omega (arith, c.requires)

pub has_part-requires : goal.has_part-requires
has_part-requires c = c.end_of.ensures.1

pub overflow_add-result : goal.overflow_add-result
overflow_add-result c = omega (arith, (c.has_part.ensures c.if-has_part.true).0, c.end_of.ensures.1)

pub overflow_add-result-in-Switch : goal.overflow_add-result-in-Switch
overflow_add-result-in-Switch c = omega (arith, (c.has_part.ensures c.if-has_part.true).0, c.end_of.ensures.1)

pub returns-in-Alternative : goal.returns-in-Alternative
returns-in-Alternative c =
    let a = c.args in
    let is = stack a.table.now a.items.now a.depth in
    let p = c.has_part.ensures c.if-has_part.true in
    λ h.
    moved_to a.table.now is a.p a.b (a.b + 1) _ refl
    (moved_branch a.table.now a.p c.requires is _ c.end_of.result a.b (sym c.construct_at.ensures ∙ c.in-Alternative.is) c.end_of.ensures.0 (found_part a.table.now (a.p + 1) c.end_of.result a.b p.1.0 p.0 p.1.1) (bottom a.table.now a.items.now a.depth c.if-depth-eq0.true))

pub returns-in-Switch : goal.returns-in-Switch
returns-in-Switch c =
    let a = c.args in
    let is = stack a.table.now a.items.now a.depth in
    let p = c.has_part.ensures c.if-has_part.true in
    λ h.
    moved_to a.table.now is a.p a.b (a.b + 1) _ refl
    (moved_case a.table.now a.p c.requires is _ c.end_of.result a.b (sym c.construct_at.ensures ∙ c.in-Switch.is) c.end_of.ensures.0 (found_part a.table.now (a.p + 1) c.end_of.result a.b p.1.0 p.0 p.1.1) (bottom a.table.now a.items.now a.depth c.if-depth-eq0.true))

pub returns-in_default : goal.returns-in_default
returns-in_default c = λ h. absurd (omega (arith, h))

pub returns-else-has_part : goal.returns-else-has_part
returns-else-has_part c = λ h. absurd (omega (arith, h))

pub returns-else-depth-eq0 : goal.returns-else-depth-eq0
returns-else-depth-eq0 c = λ h. absurd (omega (arith, h))
