use Rattle.text_formulas.proofs.Choosing.{item_open, item_closed}
use Rattle.text_formulas.proofs.sets.item.Goals as goal

-- src/sets.rt:47:9
pub returns-then-c-eq126 : goal.returns-then-c-eq126
returns-then-c-eq126 c = item_open c.if-c-eq126.true c.passed.ensures c.bound.ensures

-- src/sets.rt:43:1
pub returns : goal.returns
returns c = item_closed c.if-c-eq126.false c.calculation-r.ensures c.item_tail.ensures
