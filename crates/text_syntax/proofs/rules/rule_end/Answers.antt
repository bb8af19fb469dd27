use Rattle.text_syntax.proofs.Ruling.{end_takes, end_faults}
use Rattle.text_syntax.proofs.rules.rule_end.Goals as goal

-- src/rules.rt:25:9
pub returns-then-c-eq59 : goal.returns-then-c-eq59
returns-then-c-eq59 c = end_takes _ _ c.if-c-eq59.true c.close_rule.ensures.0 c.close_rule.ensures.1 c.passed.ensures

-- src/rules.rt:21:1
pub returns : goal.returns
returns c = end_faults _ _ c.if-c-eq59.false c.failed.ensures
