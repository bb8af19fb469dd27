use mathlib.Core.Path.{refl}
use native.Mathlib.Omega.{arith}
use Rattle.term_membership.proofs.Rounds.{spreading_more}
use Rattle.term_membership.proofs.spread.Goals as goal

pub loop-j-init : goal.loop-j-init
loop-j-init c = record { all = refl; done = λ k h. absurd (omega arith); most = omega arith }

pub bounds-out-j : goal.bounds-out-j
bounds-out-j c = omega (arith, c.loop-j.invariant.all, c.loop-j-test.true)

pub loop-j-preserved : goal.loop-j-preserved
loop-j-preserved c = spreading_more c.args.test c.loop-j.j _ c.loop-j.out c.loop-j-test.true c.loop-j.invariant refl

pub returns : goal.returns
returns c = λ j h. c.loop-j.invariant.done j (omega (arith, c.loop-j-test.false))
