use Rattle.table_sizes.proofs.own_sizes.Goals as goal

pub returns : goal.returns
returns c = simp (c.list_sizes.ensures, c.attributes_of.ensures, c.construct_at.ensures)
