use Rattle.lookahead.proofs.SetLaws.{decides_number}
use Rattle.lookahead.specs.Sets.{bit, member}
use Rattle.lookahead.proofs.contains.Goals as goal
use borrow.Author.Rules.{rules}

pub returns : goal.returns
unfolding member bit
returns c = decides_number (member c.args.set.words) c.args.n (search rules) (search rules)
