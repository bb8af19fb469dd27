use Rattle.text_formulas.proofs.Choosing.{counts_closed, counts_open}
use Rattle.text_formulas.proofs.sets.counts.Goals as goal

-- src/sets.rt:104:9
pub returns-then-c-eq126 : goal.returns-then-c-eq126
returns-then-c-eq126 c = counts_open c.if-c-eq126.true c.passed.ensures c.calculation-r.ensures (c.add_sign.ensures c.args.text.now)

-- src/sets.rt:99:1
pub returns : goal.returns
returns c = counts_closed c.if-c-eq126.false c.calculation-r-2.ensures c.counts_tail.ensures
