use mathlib.Core.Path.{◌≡◌, refl, subst}
use native.Mathlib.Omega.{arith}
use Rattle.table_fill.specs.Completed.{SetsWritten}
use Rattle.table_fill.proofs.Writing.{none_written, one_written}
use Rattle.table_fill.proofs.write_sets.Goals as goal

pub loop-i-init : goal.loop-i-init
loop-i-init c = (none_written c.args.table.now c.args.follow.now c.args.prediction.now c.args.table.now refl, omega arith)

pub overflow_mul-i : goal.overflow_mul-i
overflow_mul-i c = omega (arith, c.loop-i-test.true, c.requires.3)

pub overflow_add-i : goal.overflow_add-i
overflow_add-i c = omega (arith, c.loop-i-test.true, c.requires.3)

pub load-requires : goal.load-requires
load-requires c = omega (arith, c.loop-i-test.true, c.requires.3, c.requires.2)

pub put-requires : goal.put-requires
put-requires c = omega (arith, c.loop-i-test.true, c.requires.3, c.requires.0, c.loop-i.invariant.0.same_length)

pub overflow_mul-i-in-loop-i : goal.overflow_mul-i-in-loop-i
overflow_mul-i-in-loop-i c = omega (arith, c.loop-i-test.true, c.requires.3)

pub overflow_add-i-in-loop-i : goal.overflow_add-i-in-loop-i
overflow_add-i-in-loop-i c = omega (arith, c.loop-i-test.true, c.requires.3)

pub overflow_add-i-in-loop-i-2 : goal.overflow_add-i-in-loop-i-2
overflow_add-i-in-loop-i-2 c = omega (arith, c.loop-i-test.true, c.requires.3)

pub load-requires-in-loop-i : goal.load-requires-in-loop-i
load-requires-in-loop-i c = omega (arith, c.loop-i-test.true, c.requires.3, c.requires.1)

pub put-requires-in-loop-i : goal.put-requires-in-loop-i
put-requires-in-loop-i c = omega (arith, c.loop-i-test.true, c.requires.3, c.requires.0, c.loop-i.invariant.0.same_length, c.put.ensures.same_length)

pub loop-i-smaller : goal.loop-i-smaller
loop-i-smaller c = omega (arith, c.loop-i-test.true)

pub loop-i-preserved : goal.loop-i-preserved
loop-i-preserved c = let a = c.args in let l = c.loop-i in (one_written a.table.now a.follow.now a.prediction.now l.table c.put.new.table c.put-in-loop-i.new.table l.i c.load.result.words c.load-in-loop-i.result.words l.invariant.0 c.load.ensures c.load-in-loop-i.ensures c.put.ensures c.put-in-loop-i.ensures, omega (arith, c.loop-i-test.true))

pub returns : goal.returns
returns c = subst (SetsWritten c.args.table.now c.loop-i.table c.args.follow.now c.args.prediction.now) (let e : c.loop-i.i ≡ c.args.count = omega (arith, c.loop-i-test.false, c.loop-i.invariant.1) in e) c.loop-i.invariant.0
