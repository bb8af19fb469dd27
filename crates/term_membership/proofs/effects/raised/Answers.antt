use mathlib.Core.Bool.{not}
use mathlib.Core.Path.{sym, ◌∙◌}
use lib.IntN.{ℤ, nat_abs}
use lib.Signed.{non_neg}
use Rattle.term_integers.proofs.Laws.{read₁}
use Rattle.term_membership.proofs.Items.{raised_up, raised_least, raised_natural, raised_fits}
use Rattle.term_membership.proofs.effects.raised.Goals as goal

pub returns-then-size-offset : goal.returns-then-size-offset
returns-then-size-offset c = raised_up c.args.a c.args.offset c.magnitude-size.result (sym (read₁ (λ (z : ℤ). not (non_neg z)) c.args.a c.ranges.a.sfits c.negative.ensures) ∙ c.if-negative.true) (read₁ nat_abs c.args.a c.ranges.a.sfits c.magnitude-size.ensures) c.if-size-offset.true

pub returns-then-negative : goal.returns-then-negative
returns-then-negative c = raised_least c.args.a c.args.offset c.magnitude-size.result (sym (read₁ (λ (z : ℤ). not (non_neg z)) c.args.a c.ranges.a.sfits c.negative.ensures) ∙ c.if-negative.true) (read₁ nat_abs c.args.a c.ranges.a.sfits c.magnitude-size.ensures) c.if-size-offset.false

pub overflow_add-result : goal.overflow_add-result
overflow_add-result c = record { fits = raised_fits c.args.a c.args.offset c.magnitude-size.result (sym (read₁ (λ (z : ℤ). not (non_neg z)) c.args.a c.ranges.a.sfits c.negative.ensures) ∙ c.if-negative.false) (read₁ nat_abs c.args.a c.ranges.a.sfits c.magnitude-size.ensures) c.ranges.a.sfits c.requires }

pub returns : goal.returns
returns c = raised_natural c.args.a c.args.offset c.magnitude-size.result (sym (read₁ (λ (z : ℤ). not (non_neg z)) c.args.a c.ranges.a.sfits c.negative.ensures) ∙ c.if-negative.false) (read₁ nat_abs c.args.a c.ranges.a.sfits c.magnitude-size.ensures)
