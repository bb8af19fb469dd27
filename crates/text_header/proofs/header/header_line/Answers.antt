use native.Mathlib.Omega.{arith}
use Rattle.text_header.specs.declared.Class.{Class}
use Rattle.text_header.proofs.Runs.{span_within}
use Rattle.text_header.proofs.header.header_line.Goals as goal

pub overflow_add-equals : goal.overflow_add-equals
overflow_add-equals c = omega (arith, span_within (Class.Except 61) c.args.line.now 2, c.span-equals.ensures)
