use Rattle.text_header.specs.Header.{lines}
use Rattle.text_tokens.proofs.names.reserved.Goals as goal

-- the words in bytes are the words
pub returns : goal.returns
unfolding lines
returns c = c.number_in.ensures
