use mathlib.Core.Path.{refl}
use native.Mathlib.Omega.{arith}
use Rattle.table_first_follow.specs.Fields.{Any}
use Rattle.table_first_follow.proofs.FieldLaws.{numbered_none, numbered_hit, numbered_end}
use Rattle.table_first_follow.proofs.fields.numbered.Goals as goal

pub loop-n-init : goal.loop-n-init
loop-n-init c = (numbered_none c.args.low Any c.args.low c.empty-out.result.words refl c.empty-out.ensures, omega arith, omega arith)

pub insert-out-requires : goal.insert-out-requires
insert-out-requires c = c.loop-n.invariant.0.proper

pub loop-n-preserved : goal.loop-n-preserved
loop-n-preserved c =
    let l = c.loop-n in
    (numbered_hit c.args.low Any l.n l.out.words c.insert-out.result.words l.invariant.1 tt l.invariant.0 c.insert-out.ensures, omega (arith, l.invariant.1), omega (arith, c.loop-n-test.true))

pub returns : goal.returns
returns c =
    let l = c.loop-n in
    numbered_end c.args.low Any l.n c.args.high l.out.words c.loop-n-test.false l.invariant.2 l.invariant.0
