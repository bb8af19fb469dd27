use Rattle.table_reach.proofs.Rows.{marked_bit, unmarked}
use Rattle.table_reach.proofs.reaching.with_use.Goals as goal

pub returns-then-rule-lt-MAX_RULES : goal.returns-then-rule-lt-MAX_RULES
returns-then-rule-lt-MAX_RULES c = λ q h. marked_bit _ _ q c.if-rule-lt-MAX_RULES.true

pub returns : goal.returns
returns c = λ q h. unmarked _ _ q c.if-rule-lt-MAX_RULES.false h
