use native.Mathlib.Omega.{arith}
use mathlib.Core.Path.{sym, ◌∙◌}
use Rattle.report_chain_steps.specs.Told.{steps_of}
use Rattle.report_chain_steps.proofs.Tails.{last_as}
use Rattle.report_chain_checks.proofs.chains.at_last.Goals as goal

pub overflow_mul-k : goal.overflow_mul-k
overflow_mul-k c = omega (arith, c.requires.0)

pub overflow_mul-k-2 : goal.overflow_mul-k-2
overflow_mul-k-2 c = omega (arith, c.requires.0)

pub overflow_add-k : goal.overflow_add-k
overflow_add-k c = omega (arith, c.requires.0)

pub overflow_mul-k-3 : goal.overflow_mul-k-3
overflow_mul-k-3 c = omega (arith, c.requires.0)

pub overflow_add-k-2 : goal.overflow_add-k-2
overflow_add-k-2 c = omega (arith, c.requires.0)

pub at_field-requires : goal.at_field-requires
at_field-requires c = (c.requires.1, c.requires.2, c.requires.3, c.requires.4)

pub returns-then-tag-eq1 : goal.returns-then-tag-eq1
unfolding steps_of
returns-then-tag-eq1 c =
    let a = c.args in
    λ h. last_as a.table.now _ _ a.steps.now a.k 1 c.number_at-i.result c.number_at-v.result (sym c.if-tag-eq1.true ∙ c.number_at-tag.ensures) c.number_at-i.ensures c.number_at-v.ensures (c.at_field.ensures h)

pub returns-then-tag-eq7 : goal.returns-then-tag-eq7
unfolding steps_of
returns-then-tag-eq7 c =
    let a = c.args in
    λ h. last_as a.table.now _ _ a.steps.now a.k 7 c.number_at-i.result c.number_at-v.result (sym c.if-tag-eq7.true ∙ c.number_at-tag.ensures) c.number_at-i.ensures c.number_at-v.ensures (c.at_end.ensures h a.items.now)

pub returns : goal.returns
returns c = λ h. absurd (omega (arith, h, c.failed.ensures))
