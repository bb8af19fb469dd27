-- What is said of a text's tree follows from what is said of what is stored of it.
-- Assumes nothing.
use Prim.Native.Nat.{ℕ}
use mathlib.Core.List.{List}
use Rattle.text_admission.specs.Admitted.{Answers}
use Rattle.text_admission.specs.declared.Admission.{Admission}
use Rattle.admission.specs.Promised.{Promised}
use Rattle.admission.proofs.Numbers.{text_answered}
use Rattle.admission.proofs.Exactly.{exactly}

pub promised : {text old new : List ℕ} {answer : Admission} → Answers text old new answer → Promised text old new answer
promised {text} {old} {new} {answer} a = record { exactly = exactly text old new answer a; leaves = text_answered text old new answer a; answers = a }
