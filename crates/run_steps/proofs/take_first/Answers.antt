use mathlib.Core.Path.{subst, sym}
use native.Mathlib.Omega.{arith}
use borrow.Author.Tests.{le-leb, lt-leb}
use Rattle.run_actions.specs.Acts.{Doable}
use Rattle.run_actions.proofs.Doing.{doable}
use Rattle.run_steps.proofs.take_first.Goals as goal

-- src/lib.rt:286:9
pub do_act-requires : goal.do_act-requires
do_act-requires c = (omega arith, omega arith, omega arith, omega arith, omega arith, omega arith, omega arith, omega arith, subst (Doable c.args.table.now c.args.frame.now c.args.head.position) (sym c.decide-act.ensures) (doable _ _ _ _ _ _))

-- src/lib.rt:286:9
pub returns-then-i-le-OPENING : goal.returns-then-i-le-OPENING
returns-then-i-le-OPENING c = simp (← c.first_of-i.ensures, ← c.first_of-k.ensures, le-leb _ _ c.if-i-le-OPENING.true, ← c.decide-act.ensures) c.do_act.ensures

-- src/lib.rt:268:1
pub returns : goal.returns
returns c = simp (← c.first_of-i.ensures, lt-leb _ _ c.if-i-le-OPENING.false, c.broken.ensures)
