use Rattle.table_wellformed.proofs.lists.counts_formed.Goals as goal

pub returns : goal.returns
returns c = simp (c.formed.ensures, c.measure_counts.ensures, c.term_words.ensures)
