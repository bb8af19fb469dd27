use Rattle.text_admission.proofs.extents.lesser.Goals as goal

pub returns-in-Nothing-b : goal.returns-in-Nothing-b
returns-in-Nothing-b c = simp (c.in-At.is, c.in-Nothing-b.is)

pub returns-in-At-b : goal.returns-in-At-b
returns-in-At-b c = simp (c.in-At.is, c.in-At-b.is, c.min.ensures)
