use native.Mathlib.Omega.{arith}
use Rattle.text_tokens.proofs.Digits.{passes, stays}
use Rattle.text_tokens.proofs.numbers.pushed.Goals as goal

pub returns-then-d-radix : goal.returns-then-d-radix
returns-then-d-radix c = let z = passes c.args.v c.args.radix c.args.d c.requires.0 c.requires.2 c.if-d-radix.true in omega (arith, z)

pub overflow_mul-result : goal.overflow_mul-result
overflow_mul-result c = omega (arith, stays c.args.v c.args.radix c.args.d c.requires.0 c.if-d-radix.false)

pub overflow_add-result : goal.overflow_add-result
overflow_add-result c = omega (arith, stays c.args.v c.args.radix c.args.d c.requires.0 c.if-d-radix.false)

pub returns : goal.returns
returns c = omega (arith, stays c.args.v c.args.radix c.args.d c.requires.0 c.if-d-radix.false)
