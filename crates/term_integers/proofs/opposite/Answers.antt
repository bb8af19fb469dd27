use lib.IntN.{+ℤ_idl}
use mir.Facts.{to_z-of_z}
use Rattle.term_integers.proofs.opposite.Goals as goal

pub overflow_sub-result : goal.overflow_sub-result
overflow_sub-result c = simp (to_z-of_z, c.ranges.a, +ℤ_idl) c.requires

pub returns : goal.returns
returns c = simp (to_z-of_z, c.ranges.a, c.requires, +ℤ_idl)
