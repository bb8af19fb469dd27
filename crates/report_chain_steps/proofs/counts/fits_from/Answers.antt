use mathlib.Core.Bool.{false≢true}
use borrow.Author.Tests.{leb-true}
use Rattle.report_chain_steps.proofs.Counting.{from_many, from_few}
use Rattle.report_chain_steps.proofs.counts.fits_from.Goals as goal

pub returns-then-n-eq8 : goal.returns-then-n-eq8
returns-then-n-eq8 c = λ e. from_many c.args.low c.args.n c.if-n-eq8.true

pub returns-then-n-lt8 : goal.returns-then-n-lt8
returns-then-n-lt8 c = λ e. from_few c.args.low c.args.n c.if-n-lt8.true (leb-true _ _ e)

pub returns : goal.returns
returns c = λ e. absurd (false≢true e)
