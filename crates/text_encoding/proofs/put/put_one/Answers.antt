use Rattle.text_encoding.proofs.Writing.{written_cons, written_nil}
use Rattle.text_encoding.proofs.put.put_one.Goals as goal

pub returns : goal.returns
returns c = simp (c.put.ensures, written_cons, written_nil)
