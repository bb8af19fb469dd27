use Rattle.text_encoding.proofs.Past.{characters_past}
use Rattle.text_encoding.proofs.constructs.characters.Goals as goal

pub returns-else-p-text : goal.returns-else-p-text
returns-else-p-text c = simp (characters_past c.args.text.now c.args.p c.if-p-text.false)
