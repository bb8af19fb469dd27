use Rattle.text_admission.proofs.extents.list_found.Goals as goal

pub returns-in-Exceeds : goal.returns-in-Exceeds
returns-in-Exceeds c = simp (c.in-Err.is, c.in-Exceeds.is, c.term_after.ensures)
