use borrow.Author.Tests.{le-leb, lt-leb}
use Rattle.run_actions.proofs.uint.Goals as goal

pub returns-then-word-end : goal.returns-then-word-end
returns-then-word-end c = simp (← c.word.ensures.0, lt-leb _ _ c.if-word-end.true)

pub returns-then-word-binder : goal.returns-then-word-binder
returns-then-word-binder c = simp (← c.word.ensures.0, le-leb _ _ c.if-word-end.false, ← c.word-2.ensures.0, lt-leb _ _ c.if-word-binder.true)

pub returns : goal.returns
returns c = simp (← c.word.ensures.0, le-leb _ _ c.if-word-end.false, ← c.word-2.ensures.0, le-leb _ _ c.if-word-binder.false) c.bits.ensures
