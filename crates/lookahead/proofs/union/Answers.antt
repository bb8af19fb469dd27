use borrow.Author.Rules.{rules}
use mathlib.Core.Path.{refl}
use Rattle.lookahead.proofs.SetLaws.{filled_none, filled_more, union_is}
use Rattle.std.proofs.lemmas.Nat.{or_lt}
use Rattle.lookahead.proofs.union.Goals as goal

pub loop-i-init : goal.loop-i-init
loop-i-init c = (filled_none _, search rules)

pub loop-i-preserved : goal.loop-i-preserved
loop-i-preserved c = (filled_more _ _ _ _ (search rules) c.loop-i.invariant.0 (or_lt 64 _ _ c.loop-i-test.element_fits.fits c.loop-i-test.element_fits2.fits) refl, search rules)

pub returns : goal.returns
returns c =
    let a = c.args in
    union_is a.a.words a.b.words c.loop-i.out c.loop-i.i c.even.result c.loop-i-test.false c.loop-i.invariant.0 c.even.ensures
