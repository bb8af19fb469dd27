use Rattle.term_membership.specs.Members.{holds_from}
use Rattle.term_words.specs.Words.{terms}
use Prim.Native.Nat.{◌-◌}
use Rattle.term_prefixes.proofs.TryLaws.{Walking}
use Rattle.term_prefixes.proofs.tries.try_changes.Given as goal

abbrev pub invariant-loop-at : goal.invariant-loop-at
invariant-loop-at l = Walking (holds_from l.offset l.variables l.start (terms l.words l.start l.end)) l.width l.offset l.variables l.words l.start l.end l.initial.tried l.tried l.at l.numbers
