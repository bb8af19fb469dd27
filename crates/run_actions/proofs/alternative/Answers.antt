use Rattle.run_actions.proofs.alternative.Goals as goal

-- src/lib.rt:349:1
pub returns : goal.returns
returns c = simp (← c.ahead.ensures.0) c.branch-table.ensures
