use Rattle.text_names.specs.Names.{term_place}
use Rattle.text_names.proofs.Loops.{Least}
use Rattle.text_names.proofs.places.list_place.Given as goal

abbrev pub invariant-loop-t : goal.invariant-loop-t
invariant-loop-t l = Least l.f l.g (term_place l.text l.nodes l.terms l.a l.i) l.least l.t
