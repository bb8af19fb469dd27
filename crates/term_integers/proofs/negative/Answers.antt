use mir.Facts.{to_z-of_z}
use Rattle.term_integers.proofs.Laws.{below_zero}
use Rattle.term_integers.proofs.negative.Goals as goal

pub returns : goal.returns
returns c = simp (to_z-of_z, c.ranges.a, below_zero)
