-- The theory's run that a run over words is: "A run holds a position, a to-do list, variable values, fields recorded, steps taken and a
-- verdict."
-- Assumes nothing.
use Rattle.std.specs.Prelude.{ℕ, zero, suc, ◌+◌, ◌*◌, List, [], ◌∷◌, ◌++◌, get_or, drop}
use Rattle.basis.specs.Bits.{frame_bits}
use Rattle.theory.specs.Derivation.{Capture}
use Rattle.theory.specs.Machine.{Entry, entry, State, state, Verdict, undecided, matched, unmatched, Run, run}
use Rattle.table_layout.specs.Held.{Context, first_context, Values}
use Rattle.run_steps.specs.Steps.{Whole, whole}
use Rattle.run_steps.specs.declared.Head.{Head}

-- entries of the words' grammar carry nothing
abbrev pub HeldEntry : Type 0
HeldEntry = Entry Context

-- the theory's states and runs of such a grammar
abbrev pub HeldState : Type 0
HeldState = State Context Values

abbrev pub HeldRun : Type 0
HeldRun = Run Context Values

-- the first n words of the two arrays as pending entries; the first entry stands last
unfoldable pub pending : List ℕ → List ℕ → ℕ → List HeldEntry
pending cs ps zero = []
pending cs ps (suc n) = entry (get_or cs n 0) first_context (get_or ps n 0) ∷ pending cs ps n

-- "two words in the reading: construct number, first bit": the first n fields
unfoldable pub recorded : List ℕ → ℕ → List Capture
recorded rs zero = []
recorded rs (suc n) = recorded rs n ++ (record { construct = get_or rs (2 * n) 0; first_bit = get_or rs (2 * n + 1) 0 } ∷ [])

-- undecided, match, no match; a closed or a broken run is none of the theory's, and takes no steps either
abbrev pub verdict_as : ℕ → Verdict
verdict_as zero = undecided
verdict_as (suc zero) = matched
verdict_as (suc (suc n)) = unmatched

-- the theory's state: entries, the frame's bits from the position on, values and fields recorded
abbrev pub state_held : List ℕ → Whole → HeldState
state_held fs (whole cs ps vs rs h) = state (pending cs ps h.count) (drop h.position (frame_bits fs)) h.position vs (recorded rs h.captures)

-- the parts of what a step may change
abbrev pub head_of : Whole → Head
head_of (whole cs ps vs rs h) = h

abbrev pub constructs_of : Whole → List ℕ
constructs_of (whole cs ps vs rs h) = cs

abbrev pub passes_of : Whole → List ℕ
passes_of (whole cs ps vs rs h) = ps

abbrev pub values_of : Whole → Values
values_of (whole cs ps vs rs h) = vs

abbrev pub reading_of : Whole → List ℕ
reading_of (whole cs ps vs rs h) = rs

-- the theory's run: state, steps taken, verdict
abbrev pub run_of : List ℕ → Whole → HeldRun
run_of fs w = run (state_held fs w) (head_of w).steps (verdict_as (head_of w).verdict)

-- the words that fields are recorded as
unfoldable pub words_of : List Capture → List ℕ
words_of [] = []
words_of (c ∷ cs) = c.construct ∷ c.first_bit ∷ words_of cs
