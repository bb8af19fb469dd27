-- "Opening a run tries 23, 21, 22; a refused open gives a closed run".
-- Assumes nothing.
use Rattle.std.specs.Prelude.{ℕ, ◌*◌, ◌≤◌, ◌<◌, Bool, cond, List, length}
use Rattle.basis.specs.Limits.{max_frame_bytes}
use Rattle.run_actions.specs.Acts.{bits_of}
use Rattle.table_judge.specs.Sound.{SoundTable}
use Rattle.run_grants.specs.Runs.{opened_run, closed_run}
use Rattle.run_grants.specs.declared.Run.{Run}
use Rattle.run_matcher.specs.declared.Answer.{Answer}

-- this paper's number; 0 is no refusal
abbrev pub number_of : Answer → ℕ
number_of Answer.Unsound = 23
number_of Answer.LongFrame = 21
number_of Answer.SmallReading = 22
number_of Answer.Opened = 0

-- "tries 23, 21, 22": the first that is given
abbrev pub first_refusal : Bool → Bool → Bool → Answer
first_refusal unsound long small = cond unsound Answer.Unsound (cond long Answer.LongFrame (cond small Answer.SmallReading Answer.Opened))

-- "a refused open gives a closed run (empty list, no steps, verdict closed, which no grant changes)"
abbrev pub run_given : Answer → Run
run_given Answer.Unsound = closed_run
run_given Answer.LongFrame = closed_run
run_given Answer.SmallReading = closed_run
run_given Answer.Opened = opened_run

-- When each is answered. 23: "table not sound"; 21: "frame over 1,024 bytes"; 22: "reading room under two u32 words for each frame bit". Exactly
-- one of the four holds (`answer_once`).
abbrev pub Answered : List ℕ → List ℕ → List ℕ → Answer → Type 0
Answered ws fs rs Answer.Unsound = SoundTable ws → ⊥
Answered ws fs rs Answer.LongFrame = SoundTable ws × (max_frame_bytes < length fs)
Answered ws fs rs Answer.SmallReading = SoundTable ws × (length fs ≤ max_frame_bytes) × (length rs < 2 * bits_of fs)
Answered ws fs rs Answer.Opened = SoundTable ws × (length fs ≤ max_frame_bytes) × (2 * bits_of fs ≤ length rs)

-- a run was opened on this table, frame and reading
abbrev pub Opened : List ℕ → List ℕ → List ℕ → Type 0
Opened ws fs rs = Answered ws fs rs Answer.Opened
