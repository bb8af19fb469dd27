use borrow.Author.Tests.{eq-eqb, ne_eqb}
use Rattle.run_actions.specs.Acts.{act_of}
use Rattle.run_actions.proofs.decide.Goals as goal

pub returns-then-i-eq-OPENING : goal.returns-then-i-eq-OPENING
unfolding act_of
returns-then-i-eq-OPENING c = simp (eq-eqb _ _ c.if-i-eq-OPENING.true) c.open_rule.ensures

pub returns : goal.returns
unfolding act_of
returns c = simp (ne_eqb _ _ c.if-i-eq-OPENING.false) c.of_entry.ensures
