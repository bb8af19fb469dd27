use mathlib.Core.Bool.{true, false}
use mathlib.Core.Path.{◌∙◌}
use lib.IntN.{nat_abs}
use Rattle.term_integers.proofs.Laws.{read₁}
use Rattle.term_evaluation.proofs.Counting.{sign, least_negative, least_positive}
use Rattle.term_evaluation.proofs.counts.from_zero.Goals as goal

pub returns-then-negative : goal.returns-then-negative
returns-then-negative c = least_negative c.args.a (sign c.args.a true c.ranges.a.sfits c.negative.ensures c.if-negative.true)

pub returns-else-negative : goal.returns-else-negative
returns-else-negative c = read₁ nat_abs c.args.a c.ranges.a.sfits c.magnitude.ensures ∙ least_positive c.args.a (sign c.args.a false c.ranges.a.sfits c.negative.ensures c.if-negative.false)
