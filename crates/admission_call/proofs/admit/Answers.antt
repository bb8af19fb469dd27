use Rattle.admission.proofs.Promised.{promised}
use Rattle.text_admission.proofs.answer.Reads as answer-reads
use Rattle.admission_call.proofs.admit.Goals as goal

-- src/lib.rt:6:1
pub returns : goal.returns
returns c = promised c.answer.ensures
