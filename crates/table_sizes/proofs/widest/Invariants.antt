use Rattle.table_sizes.proofs.WidestLaws.{Widening}
use Rattle.table_sizes.proofs.widest.Given as goal

abbrev pub invariant-loop-x : goal.invariant-loop-x
invariant-loop-x l = Widening l.table l.x l.sizes
