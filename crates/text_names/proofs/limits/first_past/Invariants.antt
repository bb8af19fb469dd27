use Rattle.text_names.specs.Limits.{limit_place}
use Rattle.text_names.proofs.Loops.{Least}
use Rattle.text_names.proofs.limits.first_past.Given as goal

abbrev pub invariant-loop-k : goal.invariant-loop-k
invariant-loop-k l = Least 0 l.count (limit_place l.rules) l.least l.k
