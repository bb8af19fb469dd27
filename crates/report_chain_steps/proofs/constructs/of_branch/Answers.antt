use native.Mathlib.Omega.{arith}
use mathlib.Core.Path.{sym, ◌∙◌}
use Rattle.report_chain_steps.specs.Replayed.{stack}
use Rattle.report_chain_steps.proofs.Rules.{made_branch, made_case}
use Rattle.report_chain_steps.proofs.constructs.of_branch.Goals as goal

pub overflow_add-i : goal.overflow_add-i
overflow_add-i c = omega (arith, c.requires)

pub below_part-requires : goal.below_part-requires
below_part-requires c = c.end_of.ensures.1

pub overflow_add-i-in-Switch : goal.overflow_add-i-in-Switch
overflow_add-i-in-Switch c = omega (arith, c.requires)

pub below_part-requires-in-Switch : goal.below_part-requires-in-Switch
below_part-requires-in-Switch c = c.end_of-in-Switch.ensures.1

pub returns-in-Alternative : goal.returns-in-Alternative
returns-in-Alternative c =
    let a = c.args in
    let is = stack a.table.now a.items.now a.depth in
    let q = c.below_part in
    λ h. made_branch a.table.now a.i c.requires is (stack a.table.now a.items.now q.result) _ c.end_of.result (q.ensures h).0 (sym c.construct_at.ensures ∙ c.in-Alternative.is) c.end_of.ensures.0 (q.ensures h).1 (q.ensures h).2

pub returns-in-Switch : goal.returns-in-Switch
returns-in-Switch c =
    let a = c.args in
    let is = stack a.table.now a.items.now a.depth in
    let q = c.below_part-in-Switch in
    λ h. made_case a.table.now a.i c.requires is (stack a.table.now a.items.now q.result) _ c.end_of-in-Switch.result (q.ensures h).0 (sym c.construct_at.ensures ∙ c.in-Switch.is) c.end_of-in-Switch.ensures.0 (q.ensures h).1 (q.ensures h).2

pub returns-in_default : goal.returns-in_default
returns-in_default c = λ h. absurd (omega (arith, h))
