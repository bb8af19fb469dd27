-- From what is told of a run's fields to the calls.
-- Assumes nothing.
use Prim.Native.Nat.{ℕ}
use native.Mathlib.Omega.{arith}
use mathlib.Core.Path.{◌≡◌, sym, subst}
use mathlib.Core.List.{List}
use lib.ListN.{length}
use lib.Seq.{sets}
use Rattle.run_grants.specs.declared.Run.{Run}
use Rattle.run_saved.specs.Saved.{restored}
use Rattle.run_fields.specs.Fields.{field_of, number_of, told}
use Rattle.run_fields.specs.declared.Answer.{Answer}
use Rattle.run_matcher.specs.Opening as opening
use Rattle.run_matcher.specs.declared.Answer as matcher
use Rattle.run_matcher.specs.Conditions.{run_kept, here}
use Rattle.run_readings.specs.Told.{Filled, Told}
use Rattle.run_readings.proofs.Filling.{each_told}
use Rattle.run_readings.proofs.Told.{told_of}
use Rattle.songrafter.specs.Calls.{number_with_room}
use Rattle.conditions.specs.Calls.{Life}
use Rattle.conditions.proofs.Calls.{calls_3}
use Rattle.field_calls.specs.Fields.{Tells, FieldCalls}

-- an opening that answers 0 has opened a run
opened : (ws fs rs : List ℕ) (room : ℕ) (a : matcher.Answer) → opening.Answered ws fs rs a → 0 ≡ number_with_room (opening.number_of a) room → opening.Opened ws fs rs
opened ws fs rs room matcher.Answer.Unsound h e = absurd (omega arith)
opened ws fs rs room matcher.Answer.LongFrame h e = absurd (omega arith)
opened ws fs rs room matcher.Answer.SmallReading h e = absurd (omega arith)
opened ws fs rs room matcher.Answer.Opened h e = h

-- an answer of number 0 has four numbers
tells_by : (field field' : List ℕ) (number : ℕ) (a : Answer) → number ≡ number_of a → field' ≡ sets field 0 (told a) → number_of a ≡ 0 → Tells field field' number
tells_by field field' number Answer.LongFrame n t z = absurd (omega arith)
tells_by field field' number Answer.NoWords n t z = absurd (omega arith)
tells_by field field' number Answer.NoField n t z = absurd (omega arith)
tells_by field field' number Answer.Outside n t z = absurd (omega arith)
tells_by field field' number (Answer.Found i p w v) n t z = record { answered = n; construct = i; first_bit = p; width = w; value = v; told = t }

pub field_calls : FieldCalls
field_calls text old left answer answer' a table same frame reading room run o gs run' reading' cs =
    let life : Life text table answer answer' frame reading run = calls_3 text old left answer answer' a table same frame reading room run o in
    let lived = life.calls gs run' reading' cs in
    let h : opening.Opened table frame reading = opened table frame reading (length room) o.answer o.answered o.number_is in
    let t : Told table frame reading gs = told_of table frame reading gs life.claim.needed h.0.0 h.1 lived.granted in
    let full : Filled table frame reading' (restored run').captures (restored run').position =
    subst (λ (r : Run). Filled table frame reading' r.captures r.position) (sym lived.read_back)
    (subst (λ (rs : List ℕ). Filled table frame rs (run_kept (here table frame reading gs)).captures (run_kept (here table frame reading gs)).position) (sym lived.reading_is) t.filled) in
    record {
      filled = full;
      tells = λ k number field field' l f. tells_by field field' number (field_of table frame reading' k) f.number_is f.told_is
          (each_told table frame reading' full k l);
    }
