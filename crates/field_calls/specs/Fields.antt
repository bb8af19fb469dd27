-- What songrafter_field tells of a kiosk's run: from songrafter_admit and songrafter_open through any list of songrafter_grant, refused ones among them
-- (`conditions`, `Kiosk`). `proofs/Fields.antt` proves it: `field_calls`.
-- Assumes nothing.
use Rattle.std.specs.Prelude.{ℕ, ◌<◌, ◌≡◌, List, [], ◌∷◌}
use Rattle.std.proofs.lemmas.List.Edits.{sets}
use Rattle.run_saved.specs.Saved.{restored}
use Rattle.run_matcher.specs.Conditions.{Grant}
use Rattle.run_readings.specs.Told.{Filled}
use Rattle.songrafter.specs.Calls.{Admits, Opens, TellsField}
use Rattle.conditions.specs.Conditions.{CopyOf}
use Rattle.conditions.specs.Calls.{Kiosk}

-- a call that tells a field: 0, and construct, first bit, width and value, as many as fit
pub record Tells (field field' : List ℕ) (number : ℕ) : Type 0 where
  pub answered : number ≡ 0
  pub construct : ℕ
  pub first_bit : ℕ
  pub width : ℕ
  pub value : ℕ
  pub told : field' ≡ sets field 0 (construct ∷ first_bit ∷ width ∷ value ∷ [])

-- after the calls: fields 0 up to songrafter_fields lie one after the other up to songrafter_position, and songrafter_field tells each of them
pub record FieldsOf (table frame run' reading' : List ℕ) : Type 0 where
  pub filled : Filled table frame reading' (restored run').captures (restored run').position
  pub tells : (k number : ℕ) (field field' : List ℕ) → k < (restored run').captures → TellsField table frame reading' k field field' number → Tells field field' number

-- songrafter_admit answered 0 and left a table; songrafter_open answered 0 for that table or a copy of it, a frame and a reading, and wrote `run` over
-- `room`
abbrev pub FieldCalls : Type 0
FieldCalls =
    (text old left answer answer' : List ℕ) → Admits text old left answer answer' 0 → (table : List ℕ) → CopyOf table left
    → (frame reading room run : List ℕ) → Opens table frame reading room run 0
    → (gs : List Grant) (run' reading' : List ℕ) → Kiosk table frame run reading gs run' reading' → FieldsOf table frame run' reading'
