-- The values from number j on are tested.
use Rattle.term_membership.proofs.Rounds.{Testing}
use Rattle.term_membership.proofs.truths.tested.Given as goal

abbrev pub invariant-loop-j : goal.invariant-loop-j
invariant-loop-j l = Testing l.effect l.values l.j l.out

abbrev pub decreases-loop-j : goal.decreases-loop-j
decreases-loop-j l = l.j
