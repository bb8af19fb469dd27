use borrow.Author.Rules.{rules}
use mathlib.Core.Path.{refl}
use Rattle.lookahead_slices.proofs.FamilyLaws.{stored}
use Rattle.lookahead_slices.proofs.WriteLaws.{written_none, written_set}
use Rattle.lookahead_slices.proofs.family.store.Goals as goal

pub loop-k-init : goal.loop-k-init
loop-k-init c = (written_none _ _ _, search rules)

pub loop-k-preserved : goal.loop-k-preserved
loop-k-preserved c = (written_set _ _ _ _ _ c.loop-k.invariant.0 _ (search rules) refl, search rules)

pub shape_of-family : goal.shape_of-family
shape_of-family c = c.loop-k.invariant.0.same_length

pub returns : goal.returns
returns c =
    let a = c.args in
    stored a.set.words a.family.now c.loop-k.family a.i c.loop-k.k c.loop-k-test.false c.loop-k.invariant.1 c.loop-k.invariant.0
