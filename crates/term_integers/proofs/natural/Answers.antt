use mir.Facts.{to_z-of_z}
use Rattle.term_integers.proofs.Laws.{positive_fits}
use Rattle.term_integers.proofs.natural.Goals as goal

pub overflow_cast-result : goal.overflow_cast-result
overflow_cast-result c = simp (to_z-of_z, c.ranges.a) (positive_fits c.args.a c.requires c.ranges.a)
