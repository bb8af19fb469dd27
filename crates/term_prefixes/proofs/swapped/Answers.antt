use native.Mathlib.Omega.{arith}
use mathlib.Core.Path.{sym}
use Rattle.basis.proofs.PatternLaws.{swapped_low, swapped_high}
use Rattle.term_prefixes.proofs.swapped.Goals as goal

pub returns-then-number-half : goal.returns-then-number-half
returns-then-number-half c = (sym (swapped_low c.args.half c.args.number c.if-number-half.true), omega arith)

pub returns : goal.returns
returns c = (sym (swapped_high c.args.half c.args.number c.if-number-half.false), omega arith)
