use Rattle.std.proofs.Common.{rules}
use Rattle.term_words.specs.Tests.{combined}
use Rattle.term_words.proofs.truths.combine.Goals as goal

-- src/truths.rt:34:9
pub returns-then-truths-lt4 : goal.returns-then-truths-lt4
unfolding combined
returns-then-truths-lt4 c = search rules

-- src/truths.rt:30:1
pub returns : goal.returns
unfolding combined
returns c = search rules
