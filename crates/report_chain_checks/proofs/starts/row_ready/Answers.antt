use mathlib.Core.Bool.{false≢true}
use Rattle.report_chain_steps.proofs.Readiness.{row_construct, row_passes}
use Rattle.report_chain_checks.proofs.starts.row_ready.Goals as goal

pub returns-then-v-lt256 : goal.returns-then-v-lt256
returns-then-v-lt256 c = λ e ws s. let q = c.has_some.ensures e in row_construct ws c.args.first.now s c.args.v q.0 c.if-v-lt256.true q.1

pub returns-then-v-lt512 : goal.returns-then-v-lt512
returns-then-v-lt512 c = λ e. absurd (false≢true e)

pub returns-then-v-lt768 : goal.returns-then-v-lt768
returns-then-v-lt768 c = λ e ws s. let q = c.has_some-then-v-lt768.ensures e in row_passes ws c.args.first.now s c.args.v q.0 c.if-v-lt512.false c.if-v-lt768.true q.1

pub returns : goal.returns
returns c = λ e. absurd (false≢true e)
