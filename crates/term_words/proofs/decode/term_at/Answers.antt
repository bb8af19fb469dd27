use Rattle.std.proofs.Common.{rules}
use Rattle.term_words.specs.Words.{term_at}
use Rattle.term_words.proofs.decode.term_at.Goals as goal

-- src/decode.rt:66:9
pub returns-then-at-words : goal.returns-then-at-words
unfolding term_at
returns-then-at-words c = search rules

-- src/decode.rt:61:1
pub returns : goal.returns
unfolding term_at
returns c = search rules
