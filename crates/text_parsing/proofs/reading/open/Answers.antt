use native.Mathlib.Omega.{arith}
use Rattle.text_parsing.proofs.Steps.{paren_reads, paren_deep}
use Rattle.text_parsing.proofs.reading.open.Goals as goal

pub returns-then-d-lt-MAX_NESTING : goal.returns-then-d-lt-MAX_NESTING
returns-then-d-lt-MAX_NESTING c = paren_reads (omega (arith, c.if-d-lt-MAX_NESTING.true)) c.want.ensures.0

pub returns-else-d-lt-MAX_NESTING : goal.returns-else-d-lt-MAX_NESTING
returns-else-d-lt-MAX_NESTING c = paren_deep (omega (arith, c.if-d-lt-MAX_NESTING.false)) c.failed.ensures
