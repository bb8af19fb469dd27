use Rattle.report_places.proofs.at_fault.Goals as goal

pub returns : goal.returns
returns c = simp (c.from.ensures, c.next_fault.ensures)
