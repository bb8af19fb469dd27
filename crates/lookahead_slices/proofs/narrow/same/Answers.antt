use borrow.Author.Rules.{rules}
use mathlib.Core.Path.{sym, ◌∙◌}
use borrow.Author.Count.{below_more}
use native.Mathlib.Omega.{arith}
use Rattle.lookahead.proofs.SetLaws.{decides_true, decides_false}
use Rattle.lookahead_slices.specs.Narrow.{half}
use Rattle.lookahead_slices.proofs.narrow.same.Goals as goal

-- src/narrow.rt:51:5
pub loop-k-init : goal.loop-k-init
loop-k-init c = λ m h. absurd (omega arith)

-- src/narrow.rt:53:13
pub returns-then-table-at : goal.returns-then-table-at
unfolding half
returns-then-table-at c = decides_false _ (λ f. c.if-table-at.true (f c.loop-k.k (search rules) ∙ sym c.half.ensures))

-- src/narrow.rt:51:5
pub loop-k-preserved : goal.loop-k-preserved
unfolding half
loop-k-preserved c = below_more _ _ c.loop-k.invariant (c.if-table-at.false ∙ c.half.ensures)

-- src/narrow.rt:45:1
pub returns : goal.returns
returns c = decides_true _ (λ m h. c.loop-k.invariant m (omega arith))
