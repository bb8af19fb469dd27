use mathlib.Core.Bool.{false≢true}
use Rattle.report_chains.proofs.strings.some_begins.Goals as goal

pub returns-then-begun : goal.returns-then-begun
returns-then-begun c = λ e. c.begun.ensures c.if-begun.true

pub returns : goal.returns
returns c = λ e. absurd (false≢true e)
