use Rattle.term_evaluation.proofs.FewTerms.{value_read}
use native.Mathlib.Omega.{arith}
use Rattle.term_evaluation.proofs.short.value_at.Goals as goal

pub returns-then-place-values : goal.returns-then-place-values
returns-then-place-values c = value_read c.args.values.now c.args.at c.if-place-values.true c.value-1.given

pub returns : goal.returns
returns c = λ h. absurd (omega arith)
