-- The mission's three conditions, of the calls of a C program (`include/songrafter.h`): from what `songrafter_admit`, `songrafter_open` and
-- `songrafter_grant` promise of any bytes and words, of any lengths (`Admits`, `Opens`, `Grants`). A name with ' is what a call leaves of an array.
-- `proofs/Calls.antt` proves them: `calls_1`, `one_outcome`, `one_and_many`, `calls_2`, `calls_3`.
-- Assumes nothing.
use Rattle.std.specs.Prelude.{ℕ, ◌+◌, ◌*◌, ◌-◌, ◌≤◌, min, ◌≡◌, ◌⊎◌, ◌↔◌, List, [], ◌∷◌, length, get_or, set, take, drop}
use Rattle.std.proofs.Math.Option.{Option, none, some}
use Rattle.std.proofs.lemmas.List.Edits.{sets}
use Rattle.basis.specs.Limits.{max_frame_bytes}
use Rattle.theory.specs.Grammar.{Grammar}
use Rattle.table_layout.specs.Places.{table_words}
use Rattle.table_layout.specs.Held.{Context, Values}
use Rattle.run_actions.specs.Acts.{bits_of}
use Rattle.run_steps.specs.Steps.{undecided}
use Rattle.run_grants.specs.Runs.{closed_run}
use Rattle.run_saved.specs.Saved.{saved_bytes, encoded, restored}
use Rattle.run_matcher.specs.Conditions.{Grant, own, granted as steps-granted, kept, run_kept, reading_kept, Decided, here, Unbroken, Granted}
use Rattle.text_admission.specs.Answers.{number_of, told}
use Rattle.text_admission.specs.declared.Admission.{Admission}
use Rattle.songrafter.specs.Calls.{Admits, Opens, Grants}
use Rattle.tree_meaning.specs.Grammar.{tree_grammar}
use Rattle.tree_meaning.specs.Local.{local_grammar}
use Rattle.admission.specs.Texts.{TreeOf}
use Rattle.admission.specs.Refusals.{Exactly, Weight}
use Rattle.conditions.specs.Meaning.{Seen, OneDerivation, InTime, Seeing}
use Rattle.conditions.specs.Conditions.{CopyOf, Exact, Claim}

-- ---- 1. "each is answered or refused by a number of document 01, buffers are left as stated, no caller is trusted"

-- songrafter_admit(text, table, answer): 0, or 1 to 13. "A refused grammar changes no word of the table", "Words past 16,384 are neither read
-- nor changed"; five numbers of `answer` at most are written.
pub record AdmitLeaves (table table' answer answer' : List ℕ) (number : ℕ) : Type 0 where
  pub numbered : number ≤ 13
  pub refused : (number ≡ 0 → ⊥) → table' ≡ table
  pub beyond : (length table' ≡ length table) × (drop table_words table' ≡ drop table_words table)
  pub answer_beyond : (length answer' ≡ length answer) × (drop 5 answer' ≡ drop 5 answer)

-- songrafter_open(table, frame, reading, run): 0, 23, 21, 22, or 24. "a refused open gives a closed run", where `run` has a run's 2,596 bytes;
-- where it has not, the call is refused and writes nothing.
pub record OpenLeaves (run run' : List ℕ) (number : ℕ) : Type 0 where
  pub numbered : (number ≡ 0) ⊎ (number ≡ 21) ⊎ (number ≡ 22) ⊎ (number ≡ 23) ⊎ (number ≡ 24)
  pub run_length : length run' ≡ length run
  pub refused : (number ≡ 0 → ⊥) → length run ≡ saved_bytes → restored run' ≡ closed_run
  pub other_length : (length run ≡ saved_bytes → ⊥) → (number ≡ 0 → ⊥) × (run' ≡ run)
  pub other_only : number ≡ 24 → length run ≡ saved_bytes → ⊥

-- songrafter_grant(table, frame, reading, run, steps, taken): 0, 21 or 24. Refused, "no step is taken and nothing changes"; nor does it of a run
-- that is not undecided. "words beyond never change": past the fields recorded; of `taken` the first at most is written.
pub record GrantLeaves (reading reading' run run' taken taken' : List ℕ) (number : ℕ) : Type 0 where
  pub numbered : (number ≡ 0) ⊎ (number ≡ 21) ⊎ (number ≡ 24)
  pub refused : (number ≡ 0 → ⊥) → (run' ≡ run) × (reading' ≡ reading) × (taken' ≡ set taken 0 0)
  pub at_rest : ((restored run).verdict ≡ undecided → ⊥) → (run' ≡ run) × (reading' ≡ reading) × (taken' ≡ set taken 0 0)
  pub run_length : length run' ≡ length run
  pub beyond : (length reading' ≡ length reading) × (drop (2 * (restored run').captures) reading' ≡ drop (2 * (restored run').captures) reading)
  -- and so do the words of the fields recorded before
  pub before : take (2 * (restored run).captures) reading' ≡ take (2 * (restored run).captures) reading
  pub taken_beyond : (length taken' ≡ length taken) × (drop 1 taken' ≡ drop 1 taken)

-- of all that may be handed to them
pub record Calls1 : Type 0 where
  pub admitting : (text table table' answer answer' : List ℕ) (number : ℕ) → Admits text table table' answer answer' number → AdmitLeaves table table' answer answer' number
  pub opening : (table frame reading run run' : List ℕ) (number : ℕ) → Opens table frame reading run run' number → OpenLeaves run run' number
  pub granting : (table frame reading reading' run run' taken taken' : List ℕ) (steps number : ℕ)
      → Grants table frame reading reading' run run' taken taken' steps number → GrantLeaves reading reading' run run' taken taken' number

-- "Each public call promises its complete answer and the words it leaves, refused calls too": what it is handed decides them
pub record OneOutcome : Type 0 where
  pub admitting : (text table table₁ table₂ answer answer₁ answer₂ : List ℕ) (m n : ℕ)
      → Admits text table table₁ answer answer₁ m → Admits text table table₂ answer answer₂ n → (m ≡ n) × (table₁ ≡ table₂) × (answer₁ ≡ answer₂)
  pub opening : (table frame reading run run₁ run₂ : List ℕ) (m n : ℕ) → Opens table frame reading run run₁ m → Opens table frame reading run run₂ n → (m ≡ n) × (run₁ ≡ run₂)
  pub granting : (table frame reading reading₁ reading₂ run run₁ run₂ taken taken₁ taken₂ : List ℕ) (steps m n : ℕ)
      → Grants table frame reading reading₁ run run₁ taken taken₁ steps m → Grants table frame reading reading₂ run run₂ taken taken₂ steps n
      → (m ≡ n) × (reading₁ ≡ reading₂) × (run₁ ≡ run₂) × (taken₁ ≡ taken₂)

-- one call of songrafter_grant and many, over any bytes and words: m steps and then n leave the run, the reading and the number of m + n, and the
-- steps taken add up
abbrev pub OneAndMany : Type 0
OneAndMany =
    (table frame reading reading₁ reading₂ reading₃ run run₁ run₂ run₃ t t₁ u u₁ v v₁ : List ℕ) (m n a b c : ℕ)
    → Grants table frame reading reading₁ run run₁ t t₁ m a → Grants table frame reading₁ reading₂ run₁ run₂ u u₁ n b → Grants table frame reading reading₃ run run₃ v v₁ (m + n) c
    → (a ≡ c) × (b ≡ c) × (run₂ ≡ run₃) × (reading₂ ≡ reading₃)
    × (1 ≤ length t → 1 ≤ length u → 1 ≤ length v → get_or t₁ 0 0 + get_or u₁ 0 0 ≡ get_or v₁ 0 0)

-- ---- 2. "A grammar is admitted exactly when document 01's rules admit it", and on its table a run is opened wherever it may be

pub record Calls2 : Type 0 where
  -- `number` and `answer` tell the first row of document 01's table that fits
  pub admitting : (text table table' answer answer' : List ℕ) (number : ℕ) → Admits text table table' answer answer' number
      → (x : Admission) × Exactly text table x × (number ≡ number_of x) × (answer' ≡ sets answer 0 (told x))
  pub opening : (text old left answer answer' : List ℕ) → Admits text old left answer answer' 0 → (table : List ℕ) → CopyOf table left
      → (frame reading run run' : List ℕ) (number : ℕ) → Opens table frame reading run run' number
      → (number ≡ 0) ↔ ((length frame ≤ max_frame_bytes) × (2 * bits_of frame ≤ length reading) × (length run ≡ saved_bytes))

-- ---- a kiosk's calls of songrafter_grant

-- the array that a call is handed, where the kiosk has `mine` (no other: its own)
abbrev pub handed : (mine : List ℕ) → Option (List ℕ) → List ℕ
handed mine none = mine
handed mine (some xs) = xs

-- what the kiosk has after it: its own array changes only where it was handed over
abbrev pub left : (mine : List ℕ) → Option (List ℕ) → (xs' : List ℕ) → List ℕ
left mine none xs' = xs'
left mine (some xs) xs' = mine

-- Calls one after the other, of a kiosk with this table and frame, each answered as songrafter_grant promises: it has `run` and `reading` before
-- them, `run'` and `reading'` after them, and its own grants among them are `gs`.
pub data Kiosk (table frame : List ℕ) : (run reading : List ℕ) (gs : List Grant) (run' reading' : List ℕ) → Type 0 where
  no_call : {run reading : List ℕ} → Kiosk table frame run reading [] run reading
  -- its own table, frame, reading and run, as the calls before left them, and any `steps` and `taken`
  own_call : {run reading run' reading' : List ℕ} {gs : List Grant} (reading₁ run₁ taken taken₁ : List ℕ) (steps number : ℕ)
      → Grants table frame reading reading₁ run run₁ taken taken₁ steps number
      → Kiosk table frame run₁ reading₁ gs run' reading' → Kiosk table frame run reading (own steps ∷ gs) run' reading'
  -- "The refused ones in the list are handed another table, frame or reading", or run
  other_call : {run reading run' reading' : List ℕ} {gs : List Grant} (t f : List ℕ) (r b : Option (List ℕ)) (reading₁ run₁ taken taken₁ : List ℕ) (steps number : ℕ)
      → Grants t f (handed reading r) reading₁ (handed run b) run₁ taken taken₁ steps number × (number ≡ 0 → ⊥)
      → Kiosk table frame (left run b run₁) (left reading r reading₁) gs run' reading' → Kiosk table frame run reading gs run' reading'

-- ---- 2 and 3 of them

-- "A grant handed the run's own table, frame and reading is never refused": taken[0] is then "the smaller of its grant and the steps still missing
-- until decided", `needed` in all and `before` granted before. The refused ones "count 0 and change nothing".
unfoldable pub EachCounts : (needed : ℕ) {table frame : List ℕ} (before : ℕ) (run reading : List ℕ) {gs : List Grant} {run' reading' : List ℕ} → Kiosk table frame run reading gs run' reading' → Type 0
EachCounts needed before run reading no_call = Unit {0}
EachCounts needed before run reading (own_call reading₁ run₁ taken taken₁ steps number g cs) =
    (number ≡ 0) × (taken₁ ≡ set taken 0 (min steps (needed - before))) × EachCounts needed (before + steps) run₁ reading₁ cs
EachCounts needed before run reading (other_call t f r b reading₁ run₁ taken taken₁ steps number g cs) =
    (taken₁ ≡ set taken 0 0) × (run₁ ≡ handed run b) × (reading₁ ≡ handed reading r) × EachCounts needed before (left run b run₁) (left reading r reading₁) cs

-- what a program sees of the run's bytes and the reading (`songrafter_verdict` and the others promise just this)
abbrev pub seen : (run reading : List ℕ) → Seen
seen run reading =
    record {
      verdict = (restored run).verdict;
      steps = (restored run).steps;
      position = (restored run).position;
      fields = (restored run).captures;
      values = (restored run).values;
      reading = reading;
    }

-- after the calls: the run's bytes and the reading are those that condition 3's claim speaks of (`run_matcher`, `Granted`, `Unbroken`), and what
-- songrafter_verdict, songrafter_fields and the others read in them is exact
pub record Lived (g : Grammar Context Values) (needed : ℕ) (table frame run reading : List ℕ) (gs : List Grant) (run' reading' : List ℕ) (cs : Kiosk table frame run reading gs run' reading') : Type 0 where
  pub run_is : run' ≡ encoded (run_kept (here table frame reading gs))
  pub read_back : restored run' ≡ run_kept (here table frame reading gs)
  pub reading_is : reading' ≡ reading_kept (here table frame reading gs)
  pub granted : Granted table frame reading gs needed
  pub unbroken : Unbroken table frame reading gs
  pub answers : EachCounts needed 0 run reading cs
  -- songrafter_verdict is match or no match exactly where so many steps were granted in all
  pub decided_iff : Decided (restored run') ↔ (needed ≤ steps-granted gs)
  -- "a decided run says match exactly when some derivation covers the whole frame, and its reading lists that derivation's fields"
  pub exact : Exact g frame reading (kept (restored run') reading')

-- of a run as opened: `needed` is one number for all lists of calls, at most weight × (bits + 1) (`Claim`), and the weight is answer[0]
pub record Life (text table answer answer' frame reading run : List ℕ) : Type 0 where
  pub weight : ℕ
  pub weight_told : 1 ≤ length answer → get_or answer' 0 0 ≡ weight
  pub tree : TreeOf text
  pub weighs : Weight weight tree.tree
  pub one_derivation : OneDerivation tree.tree
  pub claim : Claim (tree_grammar tree.tree) weight table frame reading
  pub in_time : InTime weight frame claim.needed
  -- what is seen after any calls is what the text's tree and document 01's steps make of the frame
  pub meant : (gs : List Grant) (run' reading' : List ℕ) → Kiosk table frame run reading gs run' reading' → Seeing tree.tree claim.needed frame reading (steps-granted gs) (seen run' reading')
  pub calls : (gs : List Grant) (run' reading' : List ℕ) (cs : Kiosk table frame run reading gs run' reading')
      → Lived (local_grammar tree.tree) claim.needed table frame run reading gs run' reading' cs

-- songrafter_admit answered 0 and left a table; songrafter_open answered 0 for that table or a copy of it, a frame and a reading, and wrote `run` over `room`
abbrev pub Calls3 : Type 0
Calls3 =
    (text old left answer answer' : List ℕ) → Admits text old left answer answer' 0 → (table : List ℕ) → CopyOf table left
    → (frame reading room run : List ℕ) → Opens table frame reading room run 0 → Life text table answer answer' frame reading run
