-- The mission's three conditions, of what the calls promise: `Promised` (`admission::admit`), `Answered` and `run_given` (`run_matcher::open`),
-- `grant_of` (`run_grants::advance`, `run_grants::grant`). They stand at the end of each part, and are proved: `Condition1` by `condition_1`
-- (`proofs/Buffers.antt`), `Tables` by `tables` (`proofs/Tables.antt`), `OneAnswer` and `OneTable` by `one_answer` and `one_table`
-- (`proofs/OneAnswer.antt`), `Condition2`, `AtMostOne` and `Condition3` by `condition_2`, `at_most_one` and `condition_3` (`proofs/Conditions.antt`).
-- Assumes nothing.
use Rattle.std.specs.Prelude.{ℕ, ◌+◌, ◌*◌, ◌≤◌, ◌≡◌, ◌⊎◌, ◌↔◌, List, ◌++◌, length, take, drop}
use Rattle.basis.specs.Limits.{max_frame_bytes}
use Rattle.basis.specs.Bits.{Bits, frame_bits}
use Rattle.theory.specs.Grammar.{Grammar}
use Rattle.theory.specs.Derivation.{Tree, captures, Derivation}
use Rattle.theory.specs.Machine.{Tests}
use Rattle.theory.specs.Theorems.{Derivable}
use Rattle.theory.specs.Weight.{Weighs}
use Rattle.table_layout.specs.Places.{table_words, table_of, weight_of}
use Rattle.table_layout.specs.Held.{Context, first_context, Values, held, opening}
use Rattle.run_actions.specs.Acts.{bits_of}
use Rattle.run_steps.specs.Steps.{undecided, matched, unmatched}
use Rattle.run_refinement.specs.Runs.{words_of}
use Rattle.table_judge.specs.Sound.{SoundTable}
use Rattle.text_admission.specs.Answers.{number_of}
use Rattle.text_admission.specs.declared.Admission.{Admission}
use Rattle.run_grants.specs.Runs.{After, run_in, reading_in, answer_in, grant_of, closed_run, number_of as grant-number, taken_of}
use Rattle.run_grants.specs.Composing.{GrantsCompose}
use Rattle.run_grants.specs.declared.Run.{Run}
use Rattle.run_matcher.specs.Opening.{Answered, Opened, run_given, number_of as opening_number}
use Rattle.run_matcher.specs.declared.Answer.{Answer}
use Rattle.run_matcher.specs.Windows.{Tells}
use Rattle.run_matcher.specs.Conditions.{Grant, Kept, run_kept, reading_kept, OthersRefused, start, Decided, here, Unbroken, Granted, BySteps, Handing, AnyReading}
use Rattle.tree_meaning.specs.Grammar.{tree_grammar}
use Rattle.tree_meaning.specs.Local.{local_grammar}
use Rattle.admission.specs.Texts.{TreeOf}
use Rattle.admission.specs.Refusals.{Exactly}
use Rattle.admission.specs.Promised.{TextAnswered, Promised}

-- ---- 1. "each is answered or refused by a number of document 01, buffers are left as stated, no caller is trusted"

-- an opening on any table, frame and reading (none of them is changed): 0, 21, 22 or 23, and "a refused open gives a closed run"
pub record RunOpened (answer : Answer) : Type 0 where
  pub number : (opening_number answer ≡ 0) ⊎ (opening_number answer ≡ 21) ⊎ (opening_number answer ≡ 22) ⊎ (opening_number answer ≡ 23)
  pub refused : (opening_number answer ≡ 0 → ⊥) → run_given answer ≡ closed_run

-- what a grant to any run, with any table, frame and reading, leaves: 0, 21 or 24; refused, "no step is taken and nothing changes"
pub record RunGranted (rs : List ℕ) (run : Run) (x : After) : Type 0 where
  pub number : (grant-number (answer_in x) ≡ 0) ⊎ (grant-number (answer_in x) ≡ 21) ⊎ (grant-number (answer_in x) ≡ 24)
  pub refused : (grant-number (answer_in x) ≡ 0 → ⊥) → (run_in x ≡ run) × (reading_in x ≡ rs) × (taken_of (answer_in x) ≡ 0)
  -- "A decided, closed or broken run takes no more steps."
  pub at_rest : (run.verdict ≡ undecided → ⊥) → (run_in x ≡ run) × (reading_in x ≡ rs) × (taken_of (answer_in x) ≡ 0)
  pub length_kept : length (reading_in x) ≡ length rs
  -- "words beyond never change": past the fields recorded; and the words of those recorded before stay
  pub beyond : drop (2 * (run_in x).captures) (reading_in x) ≡ drop (2 * (run_in x).captures) rs
  pub before : take (2 * run.captures) (reading_in x) ≡ take (2 * run.captures) rs

-- of any text, table, frame, reading, run and number of steps
pub record Condition1 : Type 0 where
  pub admitting : (text old new : List ℕ) (answer : Admission) → Promised text old new answer → TextAnswered old new answer
  pub opening_runs : (ws fs rs : List ℕ) (answer : Answer) → Answered ws fs rs answer → RunOpened answer
  pub granting : (ws fs rs : List ℕ) (run : Run) (n : ℕ) → RunGranted rs run (grant_of ws fs rs run n)
  -- one grant and many: granting m steps and then n is granting m + n, refused or not (`run_grants`, `Composing`)
  pub adding : GrantsCompose

-- ---- the table of an admitted text

-- "each admitted grammar has one table, sound": its words hold a grammar with the derivations of the text's tree, and its weight
pub record TextTable (text new : List ℕ) (weight : ℕ) : Type 0 where
  pub tree : TreeOf text
  pub sound : SoundTable new
  pub derives : (s : Bits) (d : Tree) (v : Values) → Derivation (held (table_of new)) s d v ↔ Derivation (tree_grammar tree.tree) s d v
  pub weight_stored : weight_of (table_of new) ≡ weight
  pub weights : (w : Context → ℕ → ℕ) → Weighs (tree_grammar tree.tree) w → w first_context opening ≡ weight
  pub weighable : (w : Context → ℕ → ℕ) × Weighs (tree_grammar tree.tree) w
  -- its windows can be told
  pub windows : (tests : Tests) × Tells (tree_grammar tree.tree) tests

-- of every text that is admitted
abbrev pub Tables : Type 0
Tables = (text old new : List ℕ) (weight : ℕ) → Promised text old new (Admission.Admitted weight) → TextTable text new weight

-- A table whose words are those that were left, perhaps in another array: "Words past 16,384 are neither read nor changed".
abbrev pub CopyOf : (table left : List ℕ) → Type 0
CopyOf table left = (table_words ≤ length table) × (table_of table ≡ table_of left)

-- the table of an admitted text, or a copy of it
pub record HasTable (text table : List ℕ) (weight : ℕ) : Type 0 where
  pub old : List ℕ
  pub left : List ℕ
  pub promised : Promised text old left (Admission.Admitted weight)
  pub copy : CopyOf table left

-- an answer and the words that it leaves are the text's and the table's: no two are promised
abbrev pub OneAnswer : Type 0
OneAnswer =
    (text old new new' : List ℕ) (answer answer' : Admission) → Promised text old new answer → Promised text old new' answer' → (answer ≡ answer') × (new ≡ new')

-- "each admitted grammar has one table": one answer and one table to a text, whatever words stood there before
abbrev pub OneTable : Type 0
OneTable =
    (text old old' new new' : List ℕ) (answer answer' : Admission) → table_words ≤ length old → table_words ≤ length old' → Promised text old new answer → Promised text old' new' answer'
    → (answer ≡ answer') × (number_of answer ≡ 0 → table_of new ≡ table_of new')

-- ---- 2. "A grammar is admitted exactly when document 01's rules admit it; a decided run says match exactly when some derivation covers the
-- whole frame, and its reading lists that derivation's fields."

-- of the run and the reading `k` after some grants, a reading that was `rs` before
pub record Exact (g : Grammar Context Values) (fs rs : List ℕ) (k : Kept) : Type 0 where
  pub match_iff : Decided (run_kept k) → ((run_kept k).verdict ≡ matched) ↔ Derivable g (frame_bits fs)
  pub no_match_iff : Decided (run_kept k) → ((run_kept k).verdict ≡ unmatched) ↔ (Derivable g (frame_bits fs) → ⊥)
  -- the fields' words, and the words beyond as they were
  pub fields : (run_kept k).verdict ≡ matched → (t : Tree) (v : Values) → Derivation g (frame_bits fs) t v
      → ((run_kept k).captures ≡ length (captures t 0)) × (reading_kept k ≡ words_of (captures t 0) ++ drop (2 * length (captures t 0)) rs)

-- of every text that is answered, and every run on an admitted one's table
pub record Condition2 : Type 0 where
  -- by the first row of document 01's table of numbers that fits, 0 where none does
  pub admitting : (text old new : List ℕ) (answer : Admission) → Promised text old new answer → Exactly text old answer
  -- a run is opened on its table exactly where the frame is not over 1,024 bytes and the reading has room
  pub opened : (text table : List ℕ) (weight : ℕ) → HasTable text table weight → (fs rs : List ℕ) (answer : Answer) → Answered table fs rs answer
      → (answer ≡ Answer.Opened) ↔ ((length fs ≤ max_frame_bytes) × (2 * bits_of fs ≤ length rs))
  -- of every text that is admitted, every frame and reading on which its table opens a run, and every list of grants
  pub matching : (text table : List ℕ) (weight : ℕ) → HasTable text table weight → (x : TreeOf text)
      → (fs rs : List ℕ) → Opened table fs rs → (gs : List Grant) → OthersRefused table fs gs (start rs) → Exact (local_grammar x.tree) fs rs (here table fs rs gs)

-- ---- 3. "At most one derivation; decided within weight × (bits + 1) steps; and for every list of grants, one claim"

-- of every text that is admitted, and any bits
abbrev pub AtMostOne : Type 0
AtMostOne = (text old table : List ℕ) (weight : ℕ) → Promised text old table (Admission.Admitted weight) → (x : TreeOf text)
    → (s : Bits) (t t' : Tree) (v v' : Values) → Derivation (local_grammar x.tree) s t v → Derivation (local_grammar x.tree) s t' v' → t ≡ t'

-- of a run on a table, a frame and a reading; the table is that of a text with this grammar and weight
pub record Claim (g : Grammar Context Values) (weight : ℕ) (ws fs rs : List ℕ) : Type 0 where
  pub needed : ℕ
  pub within_bound : needed ≤ weight * (bits_of fs + 1)
  -- run, reading and count are what the steps granted in all make of them (`run_matcher`, `Granted`)
  pub granting : (gs : List Grant) → OthersRefused ws fs gs (start rs) → Granted ws fs rs gs needed
  -- and these are document 01's steps on the text's grammar (`theory`, `Machine`)
  pub by_steps : (gs : List Grant) → OthersRefused ws fs gs (start rs) → BySteps g ws fs rs gs
  -- never broken, and a grant of its own table, frame and reading is never refused
  pub unbroken : (gs : List Grant) → OthersRefused ws fs gs (start rs) → Unbroken ws fs rs gs
  -- nor is it ever broken by grants of its own table and frame with any readings (`run_matcher`, `AnyReading`)
  pub any_reading : (hs : List Handing) → AnyReading ws fs hs rs

-- of every text that is admitted, and every frame and reading on which its table opens a run
abbrev pub Condition3 : Type 0
Condition3 =
    (text table : List ℕ) (weight : ℕ) → HasTable text table weight → (x : TreeOf text)
    → (fs rs : List ℕ) → Opened table fs rs → Claim (tree_grammar x.tree) weight table fs rs
