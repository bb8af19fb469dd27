use Rattle.songrafter.proofs.CallLaws.{four_stores}
use Rattle.songrafter.proofs.put.Reads as put_reads
use Rattle.songrafter.proofs.put_four.Goals as goal

-- src/lib.rt:33:1
pub returns : goal.returns
returns c = let a = c.args in four_stores a.answer.now _ _ _ _ a.a a.b a.c a.d c.put.ensures c.put-2.ensures c.put-3.ensures c.put-4.ensures
