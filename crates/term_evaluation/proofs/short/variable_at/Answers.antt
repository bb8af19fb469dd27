use native.Mathlib.Omega.{arith}
use Rattle.term_integers.proofs.Laws.{back}
use Rattle.term_evaluation.proofs.FewTerms.{variable_operand}
use Rattle.term_evaluation.proofs.short.variable_at.Goals as goal

pub returns-then-words-base-eq2 : goal.returns-then-words-base-eq2
returns-then-words-base-eq2 c = rw (back c.value_at.result c.value_at.type_inv) (λ h. variable_operand c.args.values.now c.args.words.now c.args.at c.value_at.result (omega arith) c.if-words-base-eq2.true (c.value_at.ensures h))

pub returns : goal.returns
returns c = λ h. absurd (omega arith)
