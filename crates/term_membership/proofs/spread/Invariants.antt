-- The words before number j are written.
use Rattle.term_membership.proofs.Rounds.{Spreading}
use Rattle.term_membership.proofs.spread.Given as goal

abbrev pub invariant-loop-j : goal.invariant-loop-j
invariant-loop-j l = Spreading l.test l.j l.out
