use Rattle.text_parsing.proofs.Steps.{sign_reads}
use Rattle.text_parsing.proofs.words.add_sign.Goals as goal

-- src/words.rt:65:1
pub returns : goal.returns
returns c = λ xs. sign_reads c.add_term.ensures.0 c.add_term.ensures.1
