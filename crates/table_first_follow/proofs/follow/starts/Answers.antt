use mathlib.Core.Path.{sym, ◌∙◌}
use native.Mathlib.Omega.{arith}
use Rattle.table_first_follow.specs.Follows.{Started}
use Rattle.table_first_follow.proofs.RoundLaws.{planted_none, planted_more}
use Rattle.table_first_follow.proofs.follow.starts.Goals as goal

pub loop-i-init : goal.loop-i-init
loop-i-init c = (planted_none Started c.args.family.now c.requires, omega arith)

pub store-requires : goal.store-requires
store-requires c = omega (arith, c.loop-i.invariant.0.size)

pub loop-i-preserved : goal.loop-i-preserved
loop-i-preserved c =
    let l = c.loop-i in
    (planted_more Started l.family c.store.new.family l.i c.start.result.words c.loop-i-test.true l.invariant.0 c.start.ensures c.store.ensures, omega (arith, c.loop-i-test.true))

pub shape_of-family : goal.shape_of-family
shape_of-family c = c.loop-i.invariant.0.size ∙ sym c.requires

pub returns : goal.returns
returns c = λ j h. c.loop-i.invariant.0.done j (omega (arith, c.loop-i-test.false))
