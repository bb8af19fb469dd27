-- The terms before this one use no variable.
use Rattle.std.proofs.Common.{◌≡◌}
use Rattle.term_words.specs.Words.{terms}
use Rattle.term_evaluation.specs.Variables.{has_variable}
use Rattle.term_evaluation.proofs.variables.has_variable.Given as goal

abbrev pub invariant-loop-at : goal.invariant-loop-at
invariant-loop-at l = has_variable (terms l.words l.at l.end) ≡ has_variable (terms l.words l.start l.end)
