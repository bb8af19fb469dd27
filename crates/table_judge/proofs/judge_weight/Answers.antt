use Rattle.table_judge.proofs.Judging.{overweight, exact_weight}
use Rattle.table_judge.proofs.judge_weight.Goals as goal

pub returns-then-weight-gt-MAX_WEIGHT : goal.returns-then-weight-gt-MAX_WEIGHT
returns-then-weight-gt-MAX_WEIGHT c = let p = c.requires in (p, overweight c.args.table.now p.passed.passed.passed c.weigh-weight.result.grammar c.weigh-weight.ensures.1 c.if-weight-gt-MAX_WEIGHT.true)

pub returns : goal.returns
returns c = let p = c.requires in record { passed = p; weighs = exact_weight c.args.table.now p.passed.passed.passed c.weigh-weight.result.grammar c.weigh-weight.ensures.1 c.if-weight-gt-MAX_WEIGHT.false; limited = c.if-weight-gt-MAX_WEIGHT.false }
