use Rattle.table_sizes.proofs.list_sizes.Goals as goal

pub returns-in-Counts : goal.returns-in-Counts
returns-in-Counts c = simp (c.in-Counts.is, c.measure_counts.ensures, c.term_words.ensures, c.requires.1)

pub returns-in-Set : goal.returns-in-Set
returns-in-Set c = simp (c.in-Set.is, c.measure.ensures, c.term_words-in-Set.ensures, c.requires.1)
