use Rattle.report_wording.proofs.WalkLaws.{going_start, going_here, going_on, going_end}
use Rattle.report_wording.proofs.walking.before.Goals as goal

pub loop-tokens-init : goal.loop-tokens-init
loop-tokens-init c = going_start c.start-seen.ensures

pub returns-then-at-terminal : goal.returns-then-at-terminal
returns-then-at-terminal c = going_here c.look-terminal.ensures c.if-at-terminal.true c.loop-tokens-test.true c.loop-tokens.invariant

pub loop-tokens-preserved : goal.loop-tokens-preserved
loop-tokens-preserved c = going_on c.look-terminal.ensures c.if-at-terminal.false c.loop-tokens-test.true c.stepped-seen.ensures c.loop-tokens.invariant

pub returns : goal.returns
returns c = going_end c.loop-tokens-test.false c.loop-tokens.invariant
