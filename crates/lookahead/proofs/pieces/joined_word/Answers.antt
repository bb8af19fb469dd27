use native.Mathlib.Omega.{arith}
use Rattle.lookahead.proofs.pieces.joined_word.Goals as goal

pub returns-then-r-lt4 : goal.returns-then-r-lt4
returns-then-r-lt4 c = record { short = λ h. c.word.ensures; full = λ h. absurd (omega arith) }

pub returns : goal.returns
returns c = record { short = λ h. absurd (omega arith); full = λ h. c.word-2.ensures }
