use Rattle.text_parsing.proofs.Steps.{then}
use Rattle.text_parsing.proofs.Loops.{still_start, turn_falls}
use Rattle.text_formulas.proofs.Calculating.{factors_turn, factors_end}
use mathlib.Core.List.{[]}
use mathlib.Core.Path.{refl}
use Rattle.text_formulas.proofs.calculations.factors.Goals as goal

-- src/calculations.rt:41:5
pub loop-c-init : goal.loop-c-init
loop-c-init c = λ ns. still_start

-- src/calculations.rt:41:5
pub loop-c-smaller : goal.loop-c-smaller
loop-c-smaller c = turn_falls c.loop-c.c (rw c.loop-c-test.true refl) c.passed.ensures (then (c.operand-r.ensures []) (c.add_sign-c.ensures c.args.text.now []))

-- src/calculations.rt:41:5
pub loop-c-preserved : goal.loop-c-preserved
loop-c-preserved c = factors_turn c.args.o c.loop-c.invariant c.loop-c-test.true c.passed.ensures c.operand-r.ensures (c.add_sign-c.ensures c.args.text.now)

-- src/calculations.rt:37:1
pub returns : goal.returns
returns c = factors_end c.args.o c.loop-c.invariant c.loop-c-test.false
