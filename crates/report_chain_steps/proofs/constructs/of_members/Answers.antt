use native.Mathlib.Omega.{arith}
use mathlib.Core.Path.{sym, ◌∙◌}
use Rattle.report_chain_steps.specs.Replayed.{stack}
use Rattle.report_chain_steps.proofs.Rules.{made_members}
use Rattle.report_chain_steps.proofs.constructs.of_members.Goals as goal

pub overflow_add-i : goal.overflow_add-i
overflow_add-i c = omega (arith, c.requires)

pub below_parts-requires : goal.below_parts-requires
below_parts-requires c = c.end_of.ensures.1

pub returns-in-Concatenation : goal.returns-in-Concatenation
returns-in-Concatenation c =
    let a = c.args in
    let is = stack a.table.now a.items.now a.depth in
    let q = c.below_parts in
    λ h. made_members a.table.now a.i c.requires is (stack a.table.now a.items.now q.result) _ c.end_of.result (sym c.construct_at.ensures ∙ c.in-Concatenation.is) c.end_of.ensures.0 (q.ensures h)

pub returns-in_default : goal.returns-in_default
returns-in_default c = λ h. absurd (omega (arith, h))
