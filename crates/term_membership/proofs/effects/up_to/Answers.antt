use mathlib.Core.Bool.{not}
use mathlib.Core.Path.{sym, ◌∙◌}
use lib.IntN.{ℤ, pos, ◌+ℤ◌}
use lib.Signed.{non_neg}
use Rattle.term_integers.proofs.Laws.{read₁}
use Rattle.term_membership.specs.Effects.{low_of}
use Rattle.term_membership.proofs.Items.{end_below, end_self}
use Rattle.term_membership.proofs.effects.up_to.Goals as goal

pub returns-then-below : goal.returns-then-below
returns-then-below c = end_below c.args.low (c.args.b +ℤ pos c.args.offset) (sym (read₁ (λ (z : ℤ). not (non_neg (z +ℤ pos c.args.offset))) c.args.b c.ranges.b.sfits c.below.ensures) ∙ c.if-below.true)

pub returns : goal.returns
returns c = end_self c.args.low (c.args.b +ℤ pos c.args.offset) c.raised.result (sym (read₁ (λ (z : ℤ). not (non_neg (z +ℤ pos c.args.offset))) c.args.b c.ranges.b.sfits c.below.ensures) ∙ c.if-below.false) (read₁ (low_of c.args.offset) c.args.b c.ranges.b.sfits c.raised.ensures)
