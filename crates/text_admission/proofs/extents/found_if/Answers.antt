use Rattle.text_admission.proofs.extents.found_if.Goals as goal

pub returns-then-fault : goal.returns-then-fault
returns-then-fault c = simp c.if-fault.true
