use Rattle.std.proofs.Common.{rules}
use Rattle.term_words.specs.Words.{term_of}
use Rattle.term_words.proofs.decode.term.Goals as goal

-- src/decode.rt:52:9
pub returns-then-tag-lt7 : goal.returns-then-tag-lt7
unfolding term_of
returns-then-tag-lt7 c = search rules

-- src/decode.rt:55:9
pub returns-then-tag-lt32 : goal.returns-then-tag-lt32
unfolding term_of
returns-then-tag-lt32 c = search rules

-- src/decode.rt:48:1
pub returns : goal.returns
unfolding term_of
returns c = search rules
