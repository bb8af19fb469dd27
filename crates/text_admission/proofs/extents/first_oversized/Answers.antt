use Rattle.text_admission.proofs.extents.first_oversized.Goals as goal

pub returns : goal.returns
returns c = simp c.nodes_found.ensures
