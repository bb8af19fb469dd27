use Rattle.std.proofs.Common.{rules}
use Rattle.term_words.specs.Steps.{variable_of}
use Rattle.term_words.proofs.step.variable.Goals as goal

-- src/step.rt:17:9
pub returns-then-at-values : goal.returns-then-at-values
unfolding variable_of
returns-then-at-values c = search rules

-- src/step.rt:12:1
pub returns : goal.returns
unfolding variable_of
returns c = search rules
