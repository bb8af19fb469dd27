use Rattle.table_conflicts.proofs.unfixed.Goals as goal

pub returns-then-fixed : goal.returns-then-fixed
returns-then-fixed c = rw c.if-fixed.true tt

pub returns : goal.returns
returns c = rw c.if-fixed.false c.turns.ensures
