use Rattle.text_syntax.proofs.Ruling.{rule_reads}
use Rattle.text_syntax.proofs.rules.rule.Goals as goal

-- src/rules.rt:30:1
pub returns : goal.returns
returns c = rule_reads c.requires c.passed.ensures c.want-a.ensures.0 c.expression-b.ensures c.rule_end.ensures
