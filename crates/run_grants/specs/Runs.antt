-- Runs by value and grants of steps over any words.
-- Assumes nothing.
use Rattle.std.specs.Prelude.{ℕ, zero, suc, ◌+◌, ◌*◌, ◌-◌, Bool, true, cond, ◌&&◌, List, leb, eqb, ℤ, pos, length, get_or, set, replicate}
use Rattle.table_layout.specs.Held.{opening}
use Rattle.basis.specs.Limits.{max_variables, max_frame_bytes, max_entries}
use Rattle.table_layout.specs.Places.{table_words}
use Rattle.run_actions.specs.Acts.{bits_of, in_table}
use Rattle.run_steps.specs.Steps.{Whole, whole, undecided, closed, broken, steps_of}
use Rattle.run_steps.specs.declared.Head.{Head}
use Rattle.run_grants.specs.declared.Run.{Run}
use Rattle.run_grants.specs.declared.Answer.{Answer}

-- the numbers of a run beside its arrays
abbrev pub head_of : Run → Head
head_of run = record { position = run.position; count = run.count; captures = run.captures; steps = run.steps; verdict = run.verdict }

-- and the run of such numbers and arrays
abbrev pub run_of : Head → List ℕ → List ℕ → List ℤ → Run
run_of h cs ps vs = record { position = h.position; count = h.count; captures = h.captures; steps = h.steps; verdict = h.verdict; constructs = cs; passes = ps; values = vs }

-- "A run holds a position, a to-do list, variable values, fields recorded, steps taken and a verdict": with the reading's words, what steps change
abbrev pub whole_of : List ℕ → Run → Whole
whole_of rs run = whole run.constructs run.passes run.values rs (head_of run)

-- "It opens undecided, with a use of the start rule on its list and the rest 0."
abbrev pub opened_run : Run
opened_run =
    record { position = 0; count = 1; captures = 0; steps = 0; verdict = undecided; constructs = set (replicate max_entries 0) 0 opening; passes = replicate max_entries 0; values = replicate max_variables (pos 0) }

-- "a refused open gives a closed run (empty list, no steps, verdict closed, which no grant changes)"
abbrev pub closed_run : Run
closed_run = record { position = 0; count = 0; captures = 0; steps = 0; verdict = closed; constructs = replicate max_entries 0; passes = replicate max_entries 0; values = replicate max_variables (pos 0) }

-- "an entry isn't in the table or counts more passes than the frame's bits and one"; the opening use of the start rule is in every table
abbrev pub entry_fits : List ℕ → ℕ → ℕ → ℕ → Bool
entry_fits ws bits i k = leb k (bits + 1) && cond (eqb i opening) true (in_table ws i)

-- every pending entry
unfoldable pub entries_fit : List ℕ → ℕ → List ℕ → List ℕ → ℕ → Bool
entries_fit ws bits cs ps zero = true
entries_fit ws bits cs ps (suc n) = entry_fits ws bits (get_or cs n 0) (get_or ps n 0) && entries_fit ws bits cs ps n

-- not 24, which is "given exactly when the table is shorter than 16,384 words, the position is past the frame, the verdict is none of
-- undecided, match, no match, closed and broken, an entry isn't in the table or counts more passes than the frame's bits and one, the list
-- is longer than 256, or room is under two words for each field recorded and bit unread"
unfoldable pub fitting : List ℕ → List ℕ → ℕ → List ℕ → List ℕ → Head → Bool
fitting ws fs room cs ps h =
    leb table_words (length ws)
    && (leb h.position (bits_of fs)
    && (leb h.verdict broken
    && (leb h.count max_entries
    && (entries_fit ws (bits_of fs) cs ps h.count
    && leb (2 * (h.captures + (bits_of fs - h.position))) room))))

-- "it tries 21, then 24": one of three
abbrev pub tries : {A : Type 0} → List ℕ → List ℕ → List ℕ → Run → A → A → A → A
tries ws fs rs run long unfit granted = cond (leb (length fs) max_frame_bytes) (cond (fitting ws fs (length rs) run.constructs run.passes (head_of run)) granted unfit) long

-- the number with which a grant is refused; 0 where it is not
abbrev pub refusal_of : List ℕ → List ℕ → List ℕ → Run → ℕ
refusal_of ws fs rs run = tries ws fs rs run 21 24 0

-- what a grant leaves: the run, the reading's words, and the answer
pub data After : Type 0 where
  after : Run → List ℕ → Answer → After

-- its three parts
abbrev pub run_in : After → Run
run_in (after run rs answer) = run

abbrev pub reading_in : After → List ℕ
reading_in (after run rs answer) = rs

abbrev pub answer_in : After → Answer
answer_in (after run rs answer) = answer

-- what steps made, of a run that had taken so many steps before
abbrev pub after_steps : ℕ → Whole → After
after_steps before (whole cs ps vs rs h) = after (run_of h cs ps vs) rs (Answer.Taken (h.steps - before))

-- a grant: refused, "then no step is taken and nothing changes"; else so many steps, and "the answer says how many were taken"
unfoldable pub grant_of : List ℕ → List ℕ → List ℕ → Run → ℕ → After
grant_of ws fs rs run n = tries ws fs rs run (after run rs Answer.LongFrame) (after run rs Answer.Unfit) (after_steps run.steps (steps_of ws fs n (whole_of rs run)))

-- this paper's number for each answer; 0 is no refusal
abbrev pub number_of : Answer → ℕ
number_of Answer.LongFrame = 21
number_of Answer.Unfit = 24
number_of (Answer.Taken n) = 0

-- "the answer says how many were taken"; a refused grant takes none
abbrev pub taken_of : Answer → ℕ
taken_of Answer.LongFrame = 0
taken_of Answer.Unfit = 0
taken_of (Answer.Taken n) = n
