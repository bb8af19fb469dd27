-- What is left to work out comes to what the whole list does.
use Rattle.std.proofs.Common.{◌-◌, ◌≡◌}
use Rattle.term_words.specs.Words.{terms}
use Rattle.term_words.specs.declared.Numbers.{Numbers}
use Rattle.term_evaluation.specs.Meaning.{run}
use Rattle.term_evaluation.proofs.work_out.Given as goal

abbrev pub invariant-loop-at : goal.invariant-loop-at
invariant-loop-at l = run l.kind l.mode l.values l.value l.at (terms l.words l.at l.end) l.numbers l.truths ≡ run l.kind l.mode l.values l.value l.start (terms l.words l.start l.end) Numbers.Zero 1

abbrev pub decreases-loop-at : goal.decreases-loop-at
decreases-loop-at l = l.end - l.at
