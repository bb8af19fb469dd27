use Rattle.text_formulas.proofs.Calculating.{primary_number, primary_name, primary_fault}
use mathlib.Core.Path.{sym, ◌∙◌}
use Rattle.text_formulas.proofs.calculations.primary.Goals as goal

-- src/calculations.rt:19:9
pub returns-then-c-eq2 : goal.returns-then-c-eq2
returns-then-c-eq2 c = primary_number c.args.o c.if-c-eq2.true c.add_term.ensures.0 c.add_term.ensures.1 c.passed.ensures

-- src/calculations.rt:22:9
pub returns-then-name : goal.returns-then-name
returns-then-name c = primary_name c.args.o (sym c.name.ensures ∙ c.if-name.true) c.add_term-then-name.ensures.0 c.add_term-then-name.ensures.1 c.passed-then-name.ensures

-- src/calculations.rt:15:1
pub returns : goal.returns
returns c = primary_fault c.args.o c.if-c-eq2.false (sym c.name.ensures ∙ c.if-name.false) c.failed.ensures
