use Rattle.lookahead_slices.proofs.FamilyLaws.{Adding}
use Rattle.lookahead_slices.proofs.family.add.Given as goal

abbrev pub invariant-loop-k : goal.invariant-loop-k
invariant-loop-k l = Adding l.x l.initial.family l.i l.k l.family l.grew
