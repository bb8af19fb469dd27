use Rattle.text_encoding.proofs.Writing.{written_cons, written_nil}
use Rattle.text_encoding.proofs.put.put_two.Goals as goal

pub returns : goal.returns
returns c = simp (c.put-2.ensures, c.put.ensures, written_cons, written_nil)
