use borrow.Author.Tests.{lt-ltb, le-ltb, le-leb, lt-leb}
use Rattle.run_actions.proofs.case_holds.Goals as goal

pub returns-then-word-end : goal.returns-then-word-end
returns-then-word-end c = simp (← c.word-start.ensures.0, ← c.word-end.ensures.0, lt-ltb _ _ c.if-start-end.true, ← c.word.ensures.0, lt-leb _ _ c.if-word-end.true)

pub returns-then-start-end : goal.returns-then-start-end
returns-then-start-end c = simp (← c.word-start.ensures.0, ← c.word-end.ensures.0, lt-ltb _ _ c.if-start-end.true, ← c.word.ensures.0, le-leb _ _ c.if-word-end.false, ← c.terms.ensures) c.satisfied.ensures

pub returns : goal.returns
returns c = simp (← c.word-start.ensures.0, ← c.word-end.ensures.0, le-ltb _ _ c.if-start-end.false)
