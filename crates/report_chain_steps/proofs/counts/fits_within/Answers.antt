use mathlib.Core.Bool.{false≢true}
use borrow.Author.Tests.{leb-true, eqb-true}
use Rattle.report_chain_steps.proofs.Counting.{within_large, within_few}
use Rattle.report_chain_steps.proofs.counts.fits_within.Goals as goal

pub returns-then-n-gt8 : goal.returns-then-n-gt8
returns-then-n-gt8 c = λ e. absurd (false≢true e)

pub returns-then-k-low : goal.returns-then-k-low
returns-then-k-low c = λ e. within_large c.args.low c.args.more c.args.n (eqb-true _ _ e) c.if-k-low.true

pub returns : goal.returns
returns c = λ e. within_few c.args.low c.args.more c.args.n c.if-n-gt8.false c.if-k-low.false (leb-true _ _ e)
