use mathlib.Core.Path.{sym, ◌∙◌}
use native.Mathlib.Omega.{arith}
use Rattle.table_first_follow.specs.Rounds.{first_low, first_of}
use Rattle.table_first_follow.proofs.RoundLaws.{planted_none, planted_more, planted_done, low_first}
use Rattle.table_first_follow.proofs.first.seeds.Goals as goal

pub loop-i-init : goal.loop-i-init
loop-i-init c = (planted_none (first_low c.args.table.now) c.args.family.now c.requires, omega arith)

pub store-requires : goal.store-requires
store-requires c = omega (arith, c.loop-i.invariant.0.size)

pub loop-i-preserved : goal.loop-i-preserved
loop-i-preserved c =
    let l = c.loop-i in
    (planted_more (first_low c.args.table.now) l.family c.store.new.family l.i c.seed.result.words c.loop-i-test.true l.invariant.0 c.seed.ensures c.store.ensures, omega (arith, c.loop-i-test.true))

pub shape_of-family : goal.shape_of-family
shape_of-family c = c.loop-i.invariant.0.size ∙ sym c.requires

pub returns : goal.returns
returns c =
    let l = c.loop-i in
    planted_done (first_low c.args.table.now) (first_of c.args.table.now) l.family l.i c.loop-i-test.false (low_first c.args.table.now) l.invariant.0
