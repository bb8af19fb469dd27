use Rattle.report_places.proofs.definition.Goals as goal

pub returns : goal.returns
returns c = simp (c.from.ensures, c.first_rule.ensures)
