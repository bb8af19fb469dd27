-- What waits for each value is what the terms before number `at` leave.
use Rattle.term_membership.proofs.Members.{Underway}
use Rattle.term_membership.proofs.contains_all.Given as goal

abbrev pub invariant-loop-at : goal.invariant-loop-at
invariant-loop-at l = Underway l.offset l.variables l.words l.start l.end l.values l.at l.numbers l.masks l.count
