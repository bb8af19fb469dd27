use borrow.Author.Tests.{eq-eqb, ne_eqb}
use Rattle.run_actions.proofs.end.Goals as goal

-- src/lib.rt:344:9
pub returns-then-p-frame : goal.returns-then-p-frame
returns-then-p-frame c = simp (eq-eqb _ _ c.if-p-frame.true)

-- src/lib.rt:339:1
pub returns : goal.returns
returns c = simp (ne_eqb _ _ c.if-p-frame.false)
