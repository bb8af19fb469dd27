use Rattle.table_reach.proofs.Rows.{mended_none, mended_more, mended_all}
use borrow.Author.Rules.{rules}
use Rattle.table_reach.proofs.reaching.through.Goals as goal

pub loop-i-init : goal.loop-i-init
loop-i-init c = (mended_none _ _ _ c.requires.0, search rules)

pub loop-i-preserved : goal.loop-i-preserved
loop-i-preserved c = (mended_more c.loop-i.invariant.0 _ c.loop-i-test.true c.mended.ensures, search rules)

pub returns : goal.returns
returns c = mended_all _ _ _ _ _ c.loop-i.invariant.0 c.loop-i-test.false c.loop-i.invariant.1
