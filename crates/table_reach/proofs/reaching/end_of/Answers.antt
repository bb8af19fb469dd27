use native.Mathlib.Nat.{add-zero}
use borrow.Author.Tests.{lt-ltb, le-ltb}
use Rattle.table_reach.proofs.reaching.end_of.Goals as goal

pub returns-then-r-word : goal.returns-then-r-word
returns-then-r-word c = simp (lt-ltb _ _ c.if-r-word.true, ← c.word.ensures.0, add-zero) c.word-then-r-word.ensures.0

pub returns : goal.returns
returns c = simp (le-ltb _ _ c.if-r-word.false, ← c.word.ensures.0) c.word-2.ensures.0
