use mathlib.Core.Path.{sym, ◌∙◌}
use native.Mathlib.Omega.{arith}
use lib.IntN.{negsuc}
use Rattle.term_integers.proofs.Laws.{back}
use Rattle.term_evaluation.proofs.Clamping.{clamped_in, clamped_below}
use Rattle.term_evaluation.proofs.patterns.down.Goals as goal

pub returns-then-n-lt4611686018427387904 : goal.returns-then-n-lt4611686018427387904
returns-then-n-lt4611686018427387904 c = back c.negative.result c.negative.type_inv ∙ c.negative.ensures ∙ sym (clamped_in (negsuc c.args.n) c.if-n-lt4611686018427387904.true)

pub returns : goal.returns
returns c = sym (clamped_below c.args.n (omega arith))
