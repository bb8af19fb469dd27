use borrow.Author.Tests.{lt-ltb, le-ltb}
use Rattle.run_fields.proofs.at.Goals as goal

-- src/lib.rt:97:9
pub returns-then-table-lt-TABLE_WORDS : goal.returns-then-table-lt-TABLE_WORDS
returns-then-table-lt-TABLE_WORDS c = simp (lt-ltb _ _ c.if-table-lt-TABLE_WORDS.true)

-- src/lib.rt:92:1
pub returns : goal.returns
returns c = simp (le-ltb _ _ c.if-table-lt-TABLE_WORDS.false, ← c.width_at.ensures.0, ← c.signed_at-signed.ensures) c.in_frame.ensures
