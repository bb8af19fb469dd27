use borrow.Author.Tests.{le-leb, lt-leb}
use Rattle.run_actions.proofs.counts_of.Goals as goal

pub returns-then-word-end : goal.returns-then-word-end
returns-then-word-end c = simp (← c.word.ensures.0, lt-leb _ _ c.if-word-end.true)

pub returns : goal.returns
returns c = simp (← c.word.ensures.0, le-leb _ _ c.if-word-end.false, ← c.terms.ensures) c.count.ensures
