use Rattle.text_names.specs.Names.{node_place}
use Rattle.text_names.proofs.Loops.{Least}
use Rattle.text_names.proofs.places.nodes_place.Given as goal

abbrev pub invariant-loop-i : goal.invariant-loop-i
invariant-loop-i l = Least l.a l.e (node_place l.text l.nodes l.terms l.rules l.count l.a l.e) l.least l.i
