use native.Mathlib.Nat.{add-zero}
use mathlib.Core.Path.{ap, ◌∙◌}
use borrow.Author.Tests.{le-ltb, lt-ltb}
use Rattle.table_layout.specs.Constructs.{construct_at}
use Rattle.table_layout.specs.Held.{size_of}
use Rattle.table_layout.proofs.size_at.Goals as goal

pub returns-then-i-ge-MAX_CONSTRUCTS : goal.returns-then-i-ge-MAX_CONSTRUCTS
unfolding construct_at
returns-then-i-ge-MAX_CONSTRUCTS c = simp (le-ltb _ _ c.if-i-ge-MAX_CONSTRUCTS.true)

pub returns-then-at-table : goal.returns-then-at-table
unfolding construct_at
returns-then-at-table c = simp (lt-ltb _ _ c.if-i-ge-MAX_CONSTRUCTS.false, add-zero, ← c.word_within-then-at-table-5.ensures.0, ← c.word_within-then-at-table-4.ensures.0, ← c.word_within-then-at-table-3.ensures.0, ← c.word_within-then-at-table-2.ensures.0, ← c.word_within-then-at-table.ensures.0, ← c.word_within.ensures.0) c.decoded_size.ensures

pub returns : goal.returns
returns c = c.size_of.ensures ∙ ap size_of c.construct_at.ensures
