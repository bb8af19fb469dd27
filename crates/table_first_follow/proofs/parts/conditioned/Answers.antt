use mathlib.Core.Path.{ap₂}
use lib.Dec.{ltb}
use Rattle.table_first_follow.proofs.parts.conditioned.Goals as goal

pub returns : goal.returns
returns c = ap₂ ltb c.word-start.ensures.0 c.word-end.ensures.0
