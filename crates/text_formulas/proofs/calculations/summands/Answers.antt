use Rattle.text_parsing.proofs.Steps.{then}
use Rattle.text_parsing.proofs.Loops.{still_start, turn_falls}
use Rattle.text_formulas.proofs.Calculating.{sum_live, summands_turn, summands_end}
use mathlib.Core.List.{[]}
use mathlib.Core.Path.{sym}
use native.Mathlib.Omega.{arith}
use Rattle.text_formulas.proofs.calculations.summands.Goals as goal

pub loop-tag-init : goal.loop-tag-init
loop-tag-init c = λ ns. still_start

pub loop-tag-smaller : goal.loop-tag-smaller
loop-tag-smaller c = turn_falls c.loop-tag.c (sum_live c.loop-tag.c.code (omega (arith, c.in-Some.ensures.0, c.in-Some.ensures.1))) c.passed.ensures (then (c.operand-a.ensures []) (then (c.factors-r.ensures []) (c.add_sign-c.ensures c.args.text.now [])))

pub loop-tag-preserved : goal.loop-tag-preserved
loop-tag-preserved c = summands_turn c.args.o c.in-Some.tag c.loop-tag.invariant c.in-Some.ensures.1 c.in-Some.ensures.0 c.passed.ensures c.operand-a.ensures c.factors-r.ensures (c.add_sign-c.ensures c.args.text.now)

pub returns : goal.returns
returns c = summands_end c.args.o 0 c.loop-tag.invariant (sym c.in_default.ensures) (omega arith)
