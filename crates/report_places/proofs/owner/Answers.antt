use Rattle.report_places.proofs.owner.Goals as goal

pub returns : goal.returns
returns c = simp (c.from.ensures, c.rule_word.ensures, c.rule_number-k.ensures.0)
