use mathlib.Core.Path.{sym, ◌∙◌}
use native.Mathlib.Omega.{arith}
use Rattle.table_first_follow.specs.Follows.{Predicting}
use Rattle.table_first_follow.proofs.FollowLaws.{is_predicting}
use Rattle.table_first_follow.proofs.RoundLaws.{planted_none, planted_more}
use Rattle.table_first_follow.proofs.prediction.join_all.Goals as goal

pub loop-i-init : goal.loop-i-init
loop-i-init c =
    let a = c.args in
    (planted_none (Predicting a.first.now a.follow.now) a.family.now c.requires.2, omega arith)

pub set_of-requires : goal.set_of-requires
set_of-requires c = c.requires.0

pub set_of-requires-in-loop-i : goal.set_of-requires-in-loop-i
set_of-requires-in-loop-i c = c.requires.1

pub store-requires : goal.store-requires
store-requires c = omega (arith, c.loop-i.invariant.0.size)

pub loop-i-preserved : goal.loop-i-preserved
loop-i-preserved c =
    let a = c.args in
    let l = c.loop-i in (
      planted_more (Predicting a.first.now a.follow.now) l.family c.store.new.family l.i c.join-set.result.words c.loop-i-test.true l.invariant.0
          (is_predicting a.first.now a.follow.now c.set_of.result.words c.set_of-in-loop-i.result.words c.join-set.result.words l.i c.set_of.ensures c.set_of-in-loop-i.ensures c.join-set.ensures) c.store.ensures,
      omega (arith, c.loop-i-test.true),
    )

pub shape_of-family : goal.shape_of-family
shape_of-family c = c.loop-i.invariant.0.size ∙ sym c.requires.2

pub returns : goal.returns
returns c = λ j h. c.loop-i.invariant.0.done j (omega (arith, c.loop-i-test.false))
