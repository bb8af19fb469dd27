-- Conditions 2 (of the machine) and 3 of the mission, of every run that was opened. The statements stand at the end: `AtMostOne`, `NeverBroken`,
-- `Condition2`, `Condition3`; `proofs/Conditions.antt` proves them: `at_most_one`, `never_broken`, `condition_2`, `condition_3`.
-- Assumes nothing.
use Rattle.std.specs.Prelude.{ℕ, ◌+◌, ◌*◌, ◌-◌, ◌≤◌, ◌<◌, min, ◌≡◌, ◌⊎◌, ◌↔◌, List, [], ◌∷◌, ◌++◌, length, drop}
use Rattle.std.proofs.Math.Option.{Option, none, some}
use Rattle.basis.specs.Bits.{Bits, frame_bits}
use Rattle.theory.specs.Grammar.{Grammar}
use Rattle.theory.specs.Derivation.{Tree, captures, Derivation}
use Rattle.theory.specs.Machine.{Tests, opened, granted as granted-steps}
use Rattle.theory.specs.Scope.{localised}
use Rattle.theory.specs.Theorems.{Derivable}
use Rattle.table_layout.specs.Places.{table_of, weight_of}
use Rattle.table_layout.specs.Held.{Context, Values, held}
use Rattle.table_scope.specs.Scope.{store, scope_of, fresh}
use Rattle.run_actions.specs.Acts.{bits_of}
use Rattle.run_steps.specs.Steps.{undecided, matched, unmatched, broken, steps_of}
use Rattle.run_refinement.specs.Runs.{words_of, run_of}
use Rattle.run_grants.specs.Runs.{whole_of, opened_run, After, run_in, reading_in, answer_in, grant_of, number_of, taken_of}
use Rattle.run_grants.specs.declared.Run.{Run}
use Rattle.run_grants.specs.declared.Answer.{Answer}
use Rattle.table_judge.specs.Sound.{SoundTable}
use Rattle.run_matcher.specs.Opening.{Opened}
use Rattle.run_matcher.specs.Windows.{Tells}

-- ---- a list of grants

-- A grant of so many steps: handed the run's own table, frame and reading, or another table, frame or reading (no reading: the run's own).
pub data Grant : Type 0 where
  own : (steps : ℕ) → Grant
  other : (table frame : List ℕ) (reading : Option (List ℕ)) (steps : ℕ) → Grant

-- what is granted in all, "refused grants giving none"
abbrev pub given : Grant → ℕ
given (own n) = n
given (other table frame reading n) = 0

-- what a whole list grants
unfoldable pub granted : List Grant → ℕ
granted [] = 0
granted (g ∷ gs) = given g + granted gs

-- what is kept between grants: the run, and its reading's words
pub data Kept : Type 0 where
  kept : Run → List ℕ → Kept

-- its two parts
abbrev pub run_kept : Kept → Run
run_kept (kept run rs) = run

abbrev pub reading_kept : Kept → List ℕ
reading_kept (kept run rs) = rs

-- the reading's words that a grant is handed
abbrev pub handed : Kept → Option (List ℕ) → List ℕ
handed k none = reading_kept k
handed k (some rs) = rs

-- what a call leaves: the run's own reading changes only where it was handed over
abbrev pub left : Kept → Grant → After → Kept
left k (own n) x = kept (run_in x) (reading_in x)
left k (other table frame none n) x = kept (run_in x) (reading_in x)
left k (other table frame (some rs) n) x = kept (run_in x) (reading_kept k)

-- "The refused ones in the list are handed another table, frame or reading, which 21 or 24 turns away"
abbrev pub TurnedAway : Grant → After → Type 0
TurnedAway (own n) x = Unit {0}
TurnedAway (other table frame reading n) x = (number_of (answer_in x) ≡ 21) ⊎ (number_of (answer_in x) ≡ 24)

-- "they count 0 and change nothing. Any other answer counts the smaller of its grant and the steps still missing until decided." A run takes
-- `needed` steps to be decided, and `before` were granted before.
abbrev pub Counts : (needed before : ℕ) → Kept → Grant → After → Type 0
Counts needed before k (own n) x = answer_in x ≡ Answer.Taken (min n (needed - before))
Counts needed before k (other table frame reading n) x = (taken_of (answer_in x) ≡ 0) × (run_in x ≡ run_kept k) × (reading_in x ≡ handed k reading)

module _ (ws fs : List ℕ) where
  -- document 01's call, as `run_grants::advance` and `run_grants::grant` promise it
  abbrev pub call : Kept → Grant → After
  call k (own n) = grant_of (table_of ws) fs (reading_kept k) (run_kept k) n
  call k (other table frame reading n) = grant_of (table_of table) frame (handed k reading) (run_kept k) n

  -- what is kept after a grant
  abbrev pub next : Kept → Grant → Kept
  next k g = left k g (call k g)

  -- the run and its reading after the list
  unfoldable pub after_grants : List Grant → Kept → Kept
  after_grants [] k = k
  after_grants (g ∷ gs) k = after_grants gs (next k g)

  -- every grant in the list that is handed something else is turned away, at its moment
  unfoldable pub OthersRefused : List Grant → Kept → Type 0
  OthersRefused [] k = Unit {0}
  OthersRefused (g ∷ gs) k = TurnedAway g (call k g) × OthersRefused gs (next k g)

  -- every answer in the list counts as it should, `before` having been granted before it
  unfoldable pub EachCounts : (needed before : ℕ) → List Grant → Kept → Type 0
  EachCounts needed before [] k = Unit {0}
  EachCounts needed before (g ∷ gs) k = Counts needed before k g (call k g) × EachCounts needed (before + given g) gs (next k g)

-- ---- grants with any readings

-- A grant of so many steps, handed the run's own table and frame and this reading: "with run, table and frame kept unchanged" asks nothing of the
-- reading.
pub data Handing : Type 0 where
  handing : (reading : List ℕ) (steps : ℕ) → Handing

-- the run after a list of them; one that is refused leaves it as it was
unfoldable pub run_after : (ws fs : List ℕ) → List Handing → Run → Run
run_after ws fs [] run = run
run_after ws fs (handing rs n ∷ hs) run = run_after ws fs hs (run_in (grant_of (table_of ws) fs rs run n))

-- ---- what is claimed

-- the grammar that a table holds: "Variables are local to a rule."
abbrev pub grammar_of : List ℕ → Grammar Context Values
grammar_of ws = localised store (scope_of (table_of ws)) fresh (held (table_of ws))

-- "the run as opened and the reading's words as they then were, whatever they were"
abbrev pub start : List ℕ → Kept
start rs = kept opened_run rs

-- "decided is match or no match"
abbrev pub Decided : Run → Type 0
Decided run = (run.verdict ≡ matched) ⊎ (run.verdict ≡ unmatched)

module _ (ws fs rs : List ℕ) (gs : List Grant) where
  -- the run and its reading after the list
  abbrev pub here : Kept
  here = after_grants ws fs gs (start rs)

  -- "ends as *broken* … never from an open on a sound table with run, table and frame kept unchanged"; "A grant handed the run's own table,
  -- frame and reading is never refused."
  pub record Unbroken : Type 0 where
    pub not_broken : (run_kept here).verdict ≡ broken → ⊥
    pub not_refused : (n : ℕ) → number_of (answer_in (call ws fs here (own n))) ≡ 0

  -- a decided run says match exactly when a derivation covers the whole frame, and its reading is that derivation's fields with the words
  -- beyond as they were; no match exactly when there is none
  pub record Exact : Type 0 where
    pub match_iff : Decided (run_kept here) → ((run_kept here).verdict ≡ matched) ↔ Derivable (grammar_of ws) (frame_bits fs)
    pub no_match_iff : Decided (run_kept here) → ((run_kept here).verdict ≡ unmatched) ↔ (Derivable (grammar_of ws) (frame_bits fs) → ⊥)
    pub fields : (run_kept here).verdict ≡ matched → (t : Tree) (v : Values) → Derivation (grammar_of ws) (frame_bits fs) t v
        → ((run_kept here).captures ≡ length (captures t 0)) × (reading_kept here ≡ words_of (captures t 0) ++ drop (2 * length (captures t 0)) rs)

  -- "a single claim about the whole list": what it leaves of a run that takes `needed` steps to be decided
  pub record Granted (needed : ℕ) : Type 0 where
    -- the run and every word of the reading: what the steps granted in all make of the run as opened and the reading's first words
    pub state : whole_of (reading_kept here) (run_kept here) ≡ steps_of (table_of ws) fs (granted gs) (whole_of rs opened_run)
    -- the steps taken: the smaller of those granted in all and those that the run takes to be decided
    pub steps : (run_kept here).steps ≡ min (granted gs) needed
    pub undecided_iff : ((run_kept here).verdict ≡ undecided) ↔ (granted gs < needed)
    pub decided_iff : Decided (run_kept here) ↔ (needed ≤ granted gs)
    pub answers : EachCounts ws fs needed 0 gs (start rs)
    -- "words beyond never change"
    pub beyond : drop (2 * (run_kept here).captures) (reading_kept here) ≡ drop (2 * (run_kept here).captures) rs

module _ (ws fs : List ℕ) (hs : List Handing) where
  -- the run after grants with any readings, and what a further one leaves
  abbrev pub now : Run
  now = run_after ws fs hs opened_run

  abbrev pub further : (reading : List ℕ) (steps : ℕ) → After
  further zs n = grant_of (table_of ws) fs zs now n

  -- 24: "two words for each field recorded and bit unread"
  abbrev pub room_now : ℕ
  room_now = 2 * (now.captures + (bits_of fs - now.position))

  -- "ends as *broken* … never from an open on a sound table with run, table and frame kept unchanged", whatever readings the grants are handed: 24
  -- refuses one exactly where its reading has no room, and the words that a reading holds change neither the run nor the count
  pub record AnyReading (rs : List ℕ) : Type 0 where
    pub not_broken : now.verdict ≡ broken → ⊥
    -- it is the run that some grant with its own reading leaves
    pub as_own : (n : ℕ) × (now ≡ run_kept (here ws fs rs (own n ∷ [])))
    pub granted_iff : (zs : List ℕ) (n : ℕ) → (number_of (answer_in (further zs n)) ≡ 0) ↔ (room_now ≤ length zs)
    pub refused_iff : (zs : List ℕ) (n : ℕ) → (number_of (answer_in (further zs n)) ≡ 24) ↔ (length zs < room_now)
    pub same : (zs zs' : List ℕ) (n : ℕ) → room_now ≤ length zs → room_now ≤ length zs'
        → (run_in (further zs n) ≡ run_in (further zs' n)) × (answer_in (further zs n) ≡ answer_in (further zs' n))

-- The run and its fields after the list are what document 01's steps (crate `theory`, `Machine`) make of a grammar, however its windows are looked up.
pub record BySteps (g : Grammar Context Values) (ws fs rs : List ℕ) (gs : List Grant) : Type 0 where
  -- of undecided, match and no match: of other verdicts the theory's machine knows nothing
  pub verdict : (run_kept (here ws fs rs gs)).verdict ≤ unmatched
  pub made : (tests : Tests) → Tells g tests
      → run_of fs (whole_of (reading_kept (here ws fs rs gs)) (run_kept (here ws fs rs gs))) ≡ granted-steps g tests (granted gs) (opened g tests (frame_bits fs))

-- "a single claim about the whole list, not one for each grant"
pub record Claim (ws fs rs : List ℕ) : Type 0 where
  pub needed : ℕ
  -- decided within weight × (bits + 1)
  pub within_bound : needed ≤ weight_of (table_of ws) * (bits_of fs + 1)
  pub granting : (gs : List Grant) → OthersRefused ws fs gs (start rs) → Granted ws fs rs gs needed
  -- the steps are document 01's, of the grammar that the table holds
  pub by_steps : (gs : List Grant) → OthersRefused ws fs gs (start rs) → BySteps (held (table_of ws)) ws fs rs gs

-- ---- the theorems

-- "At most one derivation": of every sound table, and of any bits
abbrev pub AtMostOne : Type 0
AtMostOne = (ws : List ℕ) → SoundTable ws → (s : Bits) (t t' : Tree) (v v' : Values) → Derivation (grammar_of ws) s t v → Derivation (grammar_of ws) s t' v' → t ≡ t'

-- what unsound words may do, sound ones never do: of every run that was opened
pub record NeverBroken : Type 0 where
  -- and every list of condition 3's grants
  pub listed : (ws fs rs : List ℕ) → Opened ws fs rs → (gs : List Grant) → OthersRefused ws fs gs (start rs) → Unbroken ws fs rs gs
  -- and every list of grants with any readings
  pub any_reading : (ws fs rs : List ℕ) → Opened ws fs rs → (hs : List Handing) → AnyReading ws fs hs rs

-- condition 2, of the machine: its verdict and its reading, after any list of grants
abbrev pub Condition2 : Type 0
Condition2 = (ws fs rs : List ℕ) → Opened ws fs rs → (gs : List Grant) → OthersRefused ws fs gs (start rs) → Exact ws fs rs gs

-- condition 3: of every run that was opened, one number of steps for all lists
abbrev pub Condition3 : Type 0
Condition3 = (ws fs rs : List ℕ) → Opened ws fs rs → Claim ws fs rs
