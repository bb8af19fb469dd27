use Rattle.std.proofs.Common.{rules}
use mathlib.Core.Path.{subst, ap, ◌∙◌}
use Rattle.term_integers.proofs.Laws.{back}
use native.Mathlib.Omega.{arith}
use Rattle.run_actions.specs.Acts.{Doable}
use Rattle.run_steps.specs.Steps.{take_done}
use Rattle.run_steps.proofs.do_act.Goals as goal

-- src/lib.rt:245:13
pub enter-requires : goal.enter-requires
enter-requires c = (let d = subst (Doable c.args.table.now c.args.frame.now c.args.head.position) c.in-Enter.is c.requires.8 in (omega arith, omega arith, omega (arith, d.0)))

-- src/lib.rt:249:13
pub do_members-requires : goal.do_members-requires
do_members-requires c = (let d = subst (Doable c.args.table.now c.args.frame.now c.args.head.position) c.in-Members.is c.requires.8 in (omega arith, omega arith, omega arith, omega arith, d.0, d.1, omega arith, omega arith))

-- src/lib.rt:251:32
pub do_again-requires : goal.do_again-requires
do_again-requires c = (let d = subst (Doable c.args.table.now c.args.frame.now c.args.head.position) c.in-Again.is c.requires.8 in (omega arith, omega arith, omega arith, omega arith, d.0))

-- src/lib.rt:254:13
pub do_take-requires : goal.do_take-requires
do_take-requires c = (let d = subst (Doable c.args.table.now c.args.frame.now c.args.head.position) c.in-Take.is c.requires.8 in (omega arith, omega arith, omega arith, omega arith, omega arith, d.0, d.1))

-- src/lib.rt:223:1
pub returns-in-Broken : goal.returns-in-Broken
returns-in-Broken c = simp (c.in-Broken.is, c.broken.ensures)

-- src/lib.rt:223:1
pub returns-in-Fail : goal.returns-in-Fail
returns-in-Fail c = simp (c.in-Fail.is, c.failed.ensures)

-- src/lib.rt:223:1
pub returns-in-Enter : goal.returns-in-Enter
returns-in-Enter c = simp (c.in-Enter.is, c.enter.ensures.0, c.enter.ensures.1, c.taken.ensures)

-- src/lib.rt:223:1
pub returns-in-Members : goal.returns-in-Members
returns-in-Members c = simp c.in-Members.is (c.do_members.ensures _ _)

-- src/lib.rt:223:1
pub returns-in-Again : goal.returns-in-Again
returns-in-Again c = simp c.in-Again.is (c.do_again.ensures _ _)

-- src/lib.rt:223:1
pub returns-in-Leave : goal.returns-in-Leave
returns-in-Leave c = simp (c.in-Leave.is, c.taken-in-Leave.ensures)

-- src/lib.rt:223:1
pub returns-in-Take : goal.returns-in-Take
returns-in-Take c =
    let a = c.args in
    let t = c.in-Take in
    let done = ap (take_done a.frame.now a.constructs.now a.passes.now a.values.now a.reading.now a.head a.i t.width t.binder) (back t.value (search rules)) in
    simp t.is (c.do_take.ensures a.constructs.now a.passes.now ∙ done)
