use native.Mathlib.Nat.{add-zero}
use borrow.Author.Tests.{le-ltb, lt-ltb}
use Rattle.table_layout.specs.Constructs.{construct_at}
use Rattle.table_layout.proofs.construct_at.Goals as goal

-- src/lib.rt:209:9
pub returns-then-i-ge-MAX_CONSTRUCTS : goal.returns-then-i-ge-MAX_CONSTRUCTS
unfolding construct_at
returns-then-i-ge-MAX_CONSTRUCTS c = simp (le-ltb _ _ c.if-i-ge-MAX_CONSTRUCTS.true)

-- src/lib.rt:205:1
pub returns : goal.returns
unfolding construct_at
returns c = simp (lt-ltb _ _ c.if-i-ge-MAX_CONSTRUCTS.false, add-zero, ← c.word-6.ensures.0, ← c.word-5.ensures.0, ← c.word-4.ensures.0, ← c.word-3.ensures.0, ← c.word-2.ensures.0, ← c.word.ensures.0) c.decoded.ensures
