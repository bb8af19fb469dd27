use borrow.Author.Tests.{lt-ltb, le-ltb}
use Rattle.case_tables.proofs.put.Goals as goal

-- src/lib.rt:6:1
pub returns-then-k-lt-TABLE_WORDS : goal.returns-then-k-lt-TABLE_WORDS
returns-then-k-lt-TABLE_WORDS c = simp (lt-ltb _ _ c.if-k-lt-TABLE_WORDS.true)

-- src/lib.rt:6:1
pub returns-else-k-lt-TABLE_WORDS : goal.returns-else-k-lt-TABLE_WORDS
returns-else-k-lt-TABLE_WORDS c = simp (le-ltb _ _ c.if-k-lt-TABLE_WORDS.false)
