use mathlib.Core.Bool.{false≢true}
use Rattle.report_chains.proofs.Cuts.{begun_by}
use Rattle.report_chains.proofs.strings.begun.Goals as goal

pub returns-then-begins : goal.returns-then-begins
returns-then-begins c = λ e. begun_by _ c.args.n c.args.target (c.contains.ensures.0 e) (c.begins.ensures c.if-begins.true)

pub returns : goal.returns
returns c = λ e. absurd (false≢true e)
