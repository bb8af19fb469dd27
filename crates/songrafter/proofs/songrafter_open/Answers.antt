use Prim.Native.Nat.{ℕ}
use mathlib.Core.Path.{ap, ◌∙◌}
use lib.ListN.{length}
use Rattle.run_grants.specs.declared.Run.{Run}
use Rattle.run_saved.specs.Saved.{stored, saved_bytes}
use Rattle.songrafter.specs.Calls.{number_with_room}
use borrow.Author.Tests.{eq-eqb}
use Rattle.songrafter.proofs.songrafter_open.Goals as goal

-- src/lib.rt:108:1
pub returns : goal.returns
returns c = let run = c.args.run.now in record { answer = c.answer_of-answer.result; answered = c.answer_of-answer.ensures; number_is = c.with_room.ensures ∙ ap (λ (n : ℕ). number_with_room n (length run)) c.opening_number.ensures; run_is = c.put_run.ensures.0; run_length = c.put_run.auto.run; read_back = λ h. c.put_run.ensures.2 (c.put_run.ensures.1 ∙ eq-eqb (length run) saved_bytes h) }
