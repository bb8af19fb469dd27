use borrow.Author.Rules.{rules}
use borrow.Author.Tests.{lt-leb}
use mathlib.Core.Path.{sym, ◌∙◌}
use Rattle.table_wellformed.proofs.Limits.{limits}
use Rattle.table_wellformed.proofs.laid.Goals as goal
use Rattle.table_wellformed.proofs.laid.Goals.{then-table-ge-TABLE_WORDS, else-table-ge-TABLE_WORDS}

pub placed-requires : goal.placed-requires
placed-requires c = elim c.if-table-ge-TABLE_WORDS.branch [
  | then-table-ge-TABLE_WORDS w ↦ (w.if-table-ge-TABLE_WORDS.true, (limits _ (sym w.headed.ensures ∙ sym w.value-is ∙ c.if-headed.true)).constructs)
  | else-table-ge-TABLE_WORDS w ↦ absurd (search (rules, sym w.value-is ∙ c.if-headed.true, lt-leb _ _ w.if-table-ge-TABLE_WORDS.false))
]
