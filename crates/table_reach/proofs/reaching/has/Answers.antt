use mathlib.Core.Path.{refl}
use Rattle.lookahead.specs.Sets.{bit}
use Rattle.table_reach.proofs.reaching.has.Goals as goal

pub returns : goal.returns
unfolding bit
returns c = refl
