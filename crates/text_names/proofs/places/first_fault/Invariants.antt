use Rattle.text_names.specs.Names.{rule_place}
use Rattle.text_names.proofs.Loops.{Least}
use Rattle.text_names.proofs.places.first_fault.Given as goal

abbrev pub invariant-loop-k : goal.invariant-loop-k
invariant-loop-k l = Least 0 l.count (rule_place l.text l.nodes l.terms l.rules l.count) l.least l.k
