use Rattle.text_formulas.proofs.Calculating.{operand_minus, operand_plain}
use Rattle.text_formulas.proofs.calculations.operand.Goals as goal

-- src/calculations.rt:32:9
pub returns-then-c-eq45 : goal.returns-then-c-eq45
returns-then-c-eq45 c = operand_minus c.args.o c.if-c-eq45.true c.passed.ensures c.primary-r.ensures (c.add_sign.ensures c.args.text.now)

-- src/calculations.rt:27:1
pub returns : goal.returns
returns c = operand_plain c.args.o c.if-c-eq45.false c.primary.ensures
