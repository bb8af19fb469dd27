use Rattle.lookahead.proofs.FoldLaws.{deepened}
use mathlib.Core.Path.{refl}
use Rattle.lookahead.proofs.prefixes.deepen.Goals as goal

pub returns : goal.returns
returns c = deepened c.args.w c.fold.result c.args.mask _ refl c.fold.ensures
