use Rattle.lookahead.proofs.BitLaws.{lowest}
use lib.Count.{trailing_le}
use native.Mathlib.Omega.{arith}
use borrow.Author.Rules.{rules}
use Rattle.lookahead.proofs.words.trailing_zeros.Goals as goal

pub overflow_cast-result : goal.overflow_cast-result
overflow_cast-result c = omega (arith, trailing_le 64 c.args.w)

pub returns : goal.returns
returns c = lowest c.args.w c.requires (search rules)
