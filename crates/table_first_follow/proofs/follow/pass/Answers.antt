use borrow.Author.Rules.{rules}
use mathlib.Core.Path.{sym, ◌∙◌}
use native.Mathlib.Omega.{arith}
use Rattle.table_first_follow.proofs.follow.pass.Goals as goal

pub loop-k-init : goal.loop-k-init
loop-k-init c = (c.requires.2, search rules)

pub bounds-order-k : goal.bounds-order-k
bounds-order-k c = omega (arith, c.loop-k.invariant.1, c.loop-k-test.true)

pub push_any-requires : goal.push_any-requires
push_any-requires c =
    let p = c.requires in
    (p.0, p.1, c.loop-k.invariant.0)

pub loop-k-preserved : goal.loop-k-preserved
loop-k-preserved c = (c.push_any.ensures, omega (arith, c.loop-k.invariant.1))

pub shape_of-family : goal.shape_of-family
shape_of-family c = c.loop-k.invariant.0.size ∙ sym c.requires.2.size

pub returns : goal.returns
returns c = c.loop-k.invariant.0
