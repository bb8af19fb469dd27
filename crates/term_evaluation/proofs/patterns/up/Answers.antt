use mathlib.Core.Path.{sym, ◌∙◌}
use lib.IntN.{pos}
use Rattle.term_integers.proofs.Laws.{back}
use Rattle.term_evaluation.proofs.Clamping.{clamped_in, clamped_past}
use Rattle.term_evaluation.proofs.patterns.up.Goals as goal

pub returns-then-n-le4611686018427387904 : goal.returns-then-n-le4611686018427387904
returns-then-n-le4611686018427387904 c = back c.signed.result c.signed.type_inv ∙ c.signed.ensures ∙ sym (clamped_in (pos c.args.n) c.if-n-le4611686018427387904.true)

pub returns : goal.returns
returns c = sym (clamped_past c.args.n c.if-n-le4611686018427387904.false)
