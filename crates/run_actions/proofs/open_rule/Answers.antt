use native.Mathlib.Nat.{add-zero}
use borrow.Author.Tests.{lt-ltb, le-ltb}
use Rattle.run_actions.proofs.open_rule.Goals as goal

-- src/lib.rt:191:9
pub returns-then-rule-word : goal.returns-then-rule-word
returns-then-rule-word c = simp (← c.word.ensures.0, lt-ltb _ _ c.if-rule-word.true, add-zero, ← c.word-then-rule-word.ensures.0) c.enter.ensures

-- src/lib.rt:186:1
pub returns : goal.returns
returns c = simp (← c.word.ensures.0, le-ltb _ _ c.if-rule-word.false)
