use Rattle.report_quoting.proofs.PartLaws.{passing_start, passing_here, passing_on, passing_end}
use Rattle.report_quoting.proofs.quoting.end_of.Goals as goal

pub loop-tokens-init : goal.loop-tokens-init
loop-tokens-init c = passing_start

pub returns-then-ends : goal.returns-then-ends
returns-then-ends c = passing_here c.look-terminal.ensures c.ends.ensures c.if-ends.true c.loop-tokens-test.true c.loop-tokens.invariant

pub loop-tokens-preserved : goal.loop-tokens-preserved
loop-tokens-preserved c = passing_on c.look-terminal.ensures c.ends.ensures c.if-ends.false c.loop-tokens-test.true c.nesting-depth.ensures c.loop-tokens.invariant

pub returns : goal.returns
returns c = passing_end c.loop-tokens-test.false c.loop-tokens.invariant
