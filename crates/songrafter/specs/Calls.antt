-- What the C program's calls promise: the crates' promises below, by document 01's numbers and words.
-- Assumes nothing.
use Rattle.std.specs.Prelude.{ℕ, ◌≡◌, cond, List, ltb, eqb, length, set}
use Rattle.std.proofs.lemmas.List.Edits.{sets}
use Rattle.basis.specs.Limits.{max_frame_bytes}
use Rattle.table_layout.specs.Places.{table_of}
use Rattle.admission.specs.Promised.{Promised}
use Rattle.text_admission.specs.Answers.{number_of, told}
use Rattle.text_admission.specs.declared.Admission.{Admission}
use Rattle.run_matcher.specs.Opening as opening
use Rattle.run_matcher.specs.declared.Answer.{Answer}
use Rattle.run_grants.specs.Runs as runs
use Rattle.run_saved.specs.Saved.{saved_bytes, encoded, decoded, restored}
use Rattle.run_fields.specs.Fields as fields

-- ---- admission

-- admission answers with its number; what fits of the five is written
pub record Admits (text old new answer answer' : List ℕ) (number : ℕ) : Type 0 where
  pub admission : Admission
  pub promised : Promised text old new admission
  pub number_is : number ≡ number_of admission
  pub told_is : answer' ≡ sets answer 0 (told admission)

-- ---- opening: 23, 21, 22; then 24 where the room for the run is not that of a saved run. The run is written where there is room for it

-- document 01 has no other number for bytes that are no saved run
abbrev pub number_with_room : ℕ → ℕ → ℕ
number_with_room number room = cond (eqb number 0) (cond (eqb room saved_bytes) 0 24) number

-- opening answers with its number; "a refused open gives a closed run", which is written too
pub record Opens (table frame reading run run' : List ℕ) (number : ℕ) : Type 0 where
  pub answer : Answer
  pub answered : opening.Answered table frame reading answer
  pub number_is : number ≡ number_with_room (opening.number_of answer) (length run)
  pub run_is : run' ≡ cond (eqb (length run) saved_bytes) (encoded (opening.run_given answer)) run
  pub run_length : length run' ≡ length run
  -- what is written is read as the run that it is
  pub read_back : length run ≡ saved_bytes → restored run' ≡ opening.run_given answer

-- ---- granting: 21, then 24, also where the slice is not a saved run's; then neither run nor reading changes, byte by byte. The count of the
-- steps taken is written where it fits

-- what the grant leaves of the run that the bytes are
abbrev pub granted : (table frame reading run : List ℕ) → ℕ → runs.After
granted table frame reading run steps = runs.grant_of (table_of table) frame reading (decoded run) steps

-- the bytes are a saved run: all that the grant leaves is written
abbrev pub GrantsRun : (table frame reading reading' run run' taken taken' : List ℕ) → (steps number : ℕ) → Type 0
GrantsRun table frame reading reading' run run' taken taken' steps number =
    (number ≡ runs.number_of (runs.answer_in (granted table frame reading run steps)))
    × (reading' ≡ runs.reading_in (granted table frame reading run steps))
    × (run' ≡ encoded (runs.run_in (granted table frame reading run steps)))
    × (taken' ≡ set taken 0 (runs.taken_of (runs.answer_in (granted table frame reading run steps))))

-- a slice that is no saved run
abbrev pub no_run_number : List ℕ → ℕ
no_run_number frame = cond (ltb max_frame_bytes (length frame)) 21 24

-- they are none: nothing changes, and the count is 0
abbrev pub GrantsNone : (frame reading reading' run run' taken taken' : List ℕ) → (number : ℕ) → Type 0
GrantsNone frame reading reading' run run' taken taken' number =
    (number ≡ no_run_number frame) × (reading' ≡ reading) × (run' ≡ run) × (taken' ≡ set taken 0 0)

-- granting, by the length of the run's bytes
pub record Grants (table frame reading reading' run run' taken taken' : List ℕ) (steps number : ℕ) : Type 0 where
  pub saved : length run ≡ saved_bytes → GrantsRun table frame reading reading' run run' taken taken' steps number
  pub other : (length run ≡ saved_bytes → ⊥) → GrantsNone frame reading reading' run run' taken taken' number
  pub refused : (number ≡ 0 → ⊥) → (reading' ≡ reading) × (run' ≡ run)
  pub run_length : length run' ≡ length run
  -- a saved run's bytes are all of it, and what is written is read as the run that it is
  pub read_back : length run ≡ saved_bytes → (encoded (decoded run) ≡ run) × (restored run' ≡ runs.run_in (granted table frame reading run steps))

-- ---- a field of a reading: its construct, first bit, width and value

-- field k is answered with its number; what fits of the four is written, and nothing where it is refused
pub record TellsField (table frame reading : List ℕ) (k : ℕ) (field field' : List ℕ) (number : ℕ) : Type 0 where
  pub number_is : number ≡ fields.number_of (fields.field_of table frame reading k)
  pub told_is : field' ≡ sets field 0 (fields.told (fields.field_of table frame reading k))

-- ---- the version: major × 1,000,000 + minor × 1,000 + patch

abbrev pub version : ℕ
version = 3000
