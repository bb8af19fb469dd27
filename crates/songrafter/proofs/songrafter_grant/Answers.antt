use mathlib.Core.Path.{refl, ◌∙◌}
use lib.ListN.{length}
use Rattle.run_saved.specs.Saved.{saved_bytes}
use Rattle.songrafter.proofs.CallLaws.{grants_run}
use borrow.Author.Tests.{eq-eqb}
use Rattle.songrafter.proofs.songrafter_grant.Goals as goal

-- src/lib.rt:190:9
pub returns-then-run-ne-SAVED_BYTES : goal.returns-then-run-ne-SAVED_BYTES
returns-then-run-ne-SAVED_BYTES c = record { saved = λ h. absurd (c.if-run-ne-SAVED_BYTES.true h); other = λ h. (c.no_run.ensures.0, refl, refl, c.no_run.ensures.1); refused = λ h. (refl, refl); run_length = refl; read_back = λ h. absurd (c.if-run-ne-SAVED_BYTES.true h) }

-- src/lib.rt:178:1
pub returns : goal.returns
returns c = let a = c.args in grants_run a.table.now a.frame.now a.reading.now c.grant_in_place-done.new.reading a.run.now c.encode.new.out a.taken.now c.put_count.new.taken a.steps c.grant_number.result c.steps_taken-count.result c.decode.result c.grant_in_place-done.result.run c.grant_in_place-done.result.answer c.if-run-ne-SAVED_BYTES.false c.encode.auto.out c.decode.ensures.0 (c.decode.ensures.1 c.if-run-ne-SAVED_BYTES.false) (c.encode.ensures.2 (c.encode.ensures.1 ∙ eq-eqb (length a.run.now) saved_bytes c.if-run-ne-SAVED_BYTES.false)) c.grant_in_place-done.ensures c.encode.ensures.0 c.steps_taken-count.ensures c.put_count.ensures c.grant_number.ensures
