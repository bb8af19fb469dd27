use Rattle.table_conflicts.proofs.fixed.Goals as goal

pub returns-in-Counted : goal.returns-in-Counted
returns-in-Counted c = simp (c.in-Counted.is, c.exact.ensures, c.term_at.ensures, c.before-in-Counted.ensures, c.term_words.ensures)
