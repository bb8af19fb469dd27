use borrow.Author.Rules.{rules}
use Rattle.lookahead_slices.proofs.NarrowLaws.{put_at}
use Rattle.lookahead_slices.proofs.WriteLaws.{written_none, written_set}
use Rattle.lookahead_slices.specs.Narrow.{half}
use Rattle.lookahead_slices.proofs.narrow.put.Goals as goal

-- src/narrow.rt:38:5
pub loop-k-init : goal.loop-k-init
loop-k-init c = (written_none _ _ _, search rules)

-- src/narrow.rt:38:5
pub loop-k-preserved : goal.loop-k-preserved
unfolding half
loop-k-preserved c = (written_set _ _ _ _ _ c.loop-k.invariant.0 _ (search rules) c.half.ensures, search rules)

-- src/narrow.rt:32:1
pub shape_of-table : goal.shape_of-table
shape_of-table c = c.loop-k.invariant.0.same_length

-- src/narrow.rt:32:1
pub returns : goal.returns
returns c =
    let a = c.args in
    put_at a.set.words a.table.now c.loop-k.table a.at c.loop-k.k c.loop-k-test.false c.loop-k.invariant.1 c.loop-k.invariant.0
