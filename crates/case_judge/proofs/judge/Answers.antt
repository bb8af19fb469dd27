use borrow.Author.Rules.{rules}
use Rattle.case_judge.proofs.judge.Goals as goal

pub complete-requires : goal.complete-requires
complete-requires c = (c.formed.ensures.0 c.if-formed.true, search rules)
