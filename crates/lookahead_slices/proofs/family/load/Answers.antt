use borrow.Author.Rules.{rules}
use mathlib.Core.Path.{refl}
use Rattle.lookahead_slices.proofs.FamilyLaws.{loaded}
use Rattle.lookahead.proofs.SetLaws.{filled_none, filled_more}
use Rattle.lookahead_slices.proofs.family.load.Goals as goal

pub loop-k-init : goal.loop-k-init
loop-k-init c = (filled_none _, search rules)

pub loop-k-preserved : goal.loop-k-preserved
loop-k-preserved c = (filled_more _ _ _ _ (search rules) c.loop-k.invariant.0 (search rules) refl, search rules)

pub returns : goal.returns
returns c =
    let a = c in
    loaded a.args.family.now c.loop-k.words a.args.i c.loop-k.k a.requires c.loop-k-test.false c.loop-k.invariant.0
