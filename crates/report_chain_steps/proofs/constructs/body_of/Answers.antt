use native.Mathlib.Nat.{add-zero}
use Rattle.report_chain_steps.proofs.constructs.body_of.Goals as goal

pub returns-then-rule-lt64 : goal.returns-then-rule-lt64
returns-then-rule-lt64 c = λ h. simp add-zero c.word.ensures.0
