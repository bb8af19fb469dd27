use Rattle.text_formulas.proofs.Choosing.{counts_range, counts_single}
use Rattle.text_formulas.proofs.sets.counts_tail.Goals as goal

-- src/sets.rt:94:9
pub returns-then-c-eq126 : goal.returns-then-c-eq126
returns-then-c-eq126 c = counts_range c.if-c-eq126.true c.passed.ensures c.bound.ensures

-- src/sets.rt:90:1
pub returns : goal.returns
returns c = counts_single c.if-c-eq126.false
