use Rattle.table_wellformed.proofs.lists.list_formed.Goals as goal

pub returns : goal.returns
returns c = simp (c.formed.ensures, c.measure.ensures, c.term_words.ensures)
