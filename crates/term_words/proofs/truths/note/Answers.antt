use Rattle.std.proofs.Common.{rules}
use Rattle.term_words.specs.Tests.{noted}
use Rattle.term_words.proofs.truths.note.Goals as goal

-- src/truths.rt:12:13
pub returns-then-truth : goal.returns-then-truth
unfolding noted
returns-then-truth c = search rules

-- src/truths.rt:14:9
pub returns-then-truths-lt4611686018427387904 : goal.returns-then-truths-lt4611686018427387904
unfolding noted
returns-then-truths-lt4611686018427387904 c = search rules

-- src/truths.rt:7:1
pub returns : goal.returns
unfolding noted
returns c = search rules
