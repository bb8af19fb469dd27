use Rattle.report_places.proofs.rule.Goals as goal

pub returns : goal.returns
returns c = simp (c.totals.ensures, c.rule_number.ensures.0)
