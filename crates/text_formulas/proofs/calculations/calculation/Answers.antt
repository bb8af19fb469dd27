use Rattle.text_formulas.proofs.Calculating.{calculation_reads}
use Rattle.text_formulas.proofs.calculations.calculation.Goals as goal

-- src/calculations.rt:74:1
pub returns : goal.returns
returns c = calculation_reads c.operand-a.ensures c.factors-r.ensures c.summands.ensures
