use Rattle.text_formulas.proofs.Choosing.{tail_range, tail_single}
use Rattle.text_formulas.proofs.sets.item_tail.Goals as goal

-- src/sets.rt:37:9
pub returns-then-c-eq126 : goal.returns-then-c-eq126
returns-then-c-eq126 c = tail_range c.if-c-eq126.true c.passed.ensures c.bound.ensures

-- src/sets.rt:33:1
pub returns : goal.returns
returns c = tail_single c.if-c-eq126.false c.mark_single.ensures
