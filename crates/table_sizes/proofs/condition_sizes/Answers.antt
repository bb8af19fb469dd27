use borrow.Author.Tests.{lt-ltb, le-ltb}
use Rattle.table_sizes.proofs.condition_sizes.Goals as goal

pub returns-then-start-end : goal.returns-then-start-end
returns-then-start-end c = simp (c.measure.ensures, c.term_words.ensures, c.requires.2, lt-ltb _ _ c.if-start-end.true, ← c.construct_word-end.ensures.0, ← c.construct_word-start.ensures.0)

pub returns : goal.returns
returns c = simp (le-ltb _ _ c.if-start-end.false, ← c.construct_word-end.ensures.0, ← c.construct_word-start.ensures.0)
