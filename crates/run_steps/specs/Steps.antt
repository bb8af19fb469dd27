-- A step over any words: "A step takes the first entry". The list of pending entries is two arrays, the first entry last; `count` of each
-- are pending, and what stands beyond may be anything.
-- Assumes nothing.
use Rattle.std.specs.Prelude.{ℕ, zero, suc, ◌+◌, ◌*◌, ◌-◌, ◌≤◌, Bool, false, cond, ◌&&◌, ◌≡◌, List, leb, ltb, eqb, ℤ, length, get_or, set}
use Rattle.table_layout.specs.Held.{opening}
use Rattle.basis.specs.Limits.{max_weight, max_entries}
use Rattle.table_layout.specs.Places.{weight_of}
use Rattle.run_actions.specs.Acts.{walk, bits_of, act_of}
use Rattle.run_actions.specs.declared.Act.{Act}
use Rattle.run_steps.specs.declared.Head.{Head}

-- the verdicts, as numbers: any bytes may arrive as a run
abbrev pub undecided : ℕ
undecided = 0

abbrev pub matched : ℕ
matched = 1

abbrev pub unmatched : ℕ
unmatched = 2

abbrev pub closed : ℕ
closed = 3

abbrev pub broken : ℕ
broken = 4

-- all that a step may change: the entries' constructs and passes, the values, the reading's words, and the numbers beside them
pub data Whole : Type 0 where
  whole : (constructs passes : List ℕ) (values : List ℤ) (reading : List ℕ) (head : Head) → Whole

-- "ends as *broken*, only its verdict changed and no word written"
abbrev pub break : Head → Head
break h = record { position = h.position; count = h.count; captures = h.captures; steps = h.steps; verdict = broken }

-- "Where a step fails, position, list, values and fields stay as before it"
abbrev pub fail : Head → Head
fail h = record { position = h.position; count = h.count; captures = h.captures; steps = h.steps + 1; verdict = unmatched }

-- "When the list is empty the run is decided: match at the end of the frame, else no match."
abbrev pub verdict_after : List ℕ → ℕ → ℕ → ℕ
verdict_after fs count position = cond (eqb count 0) (cond (eqb position (bits_of fs)) matched unmatched) undecided

-- a step taken, after which so many entries, this position and so many captures are there
abbrev pub taken : List ℕ → Head → ℕ → ℕ → ℕ → Head
taken fs h count position captures =
    record { position = position; count = count; captures = captures; steps = h.steps + 1; verdict = verdict_after fs count position }

-- Members are put below each other, the first one last, ending below place `at`. One of them: `what` is put for it.
abbrev pub put : (ℕ → ℕ) → ℕ → (ℕ → List ℕ → List ℕ) → ℕ → List ℕ → List ℕ
put what j rest k xs = cond (eqb k 0) xs (rest (k - 1) (set xs (k - 1) (what j)))

-- the members from number `start` up to number `end`
unfoldable pub placed : (ℕ → ℕ) → List ℕ → ℕ → ℕ → ℕ → List ℕ → List ℕ
unfolding walk
placed what ws start end at xs = walk {A = ℕ → List ℕ → List ℕ} (put what) (λ k ys. ys) (λ k ys. ys) (end - start) ws start end at xs

-- a binder is 1 + its variable; 0 binds none
abbrev pub bind : ℕ → ℤ → List ℤ → List ℤ
bind zero n vs = vs
bind (suc x) n vs = set vs x n

-- What is done. "List or reading without room" is broken.

-- the members of a concatenation in the place of the first entry
abbrev pub members_done : List ℕ → List ℕ → List ℕ → List ℕ → List ℤ → List ℕ → Head → ℕ → ℕ → ℕ → Whole
members_done ws fs cs ps vs rs h start end n =
    cond (leb (h.count + n) (max_entries + 1))
    (whole (placed (λ j. j) ws start end (h.count - 1 + n) cs) (placed (λ j. 0) ws start end (h.count - 1 + n) ps) vs rs (taken fs h (h.count - 1 + n) h.position h.captures))
    (whole cs ps vs rs (break h))

-- the first entry with one pass more than k, below its body; a list has room for "the frame's bits and one" passes, as 24 says
abbrev pub again_done : List ℕ → List ℕ → List ℕ → List ℤ → List ℕ → Head → ℕ → ℕ → Whole
again_done fs cs ps vs rs h k b =
    cond (ltb h.count max_entries && ltb k (bits_of fs + 1))
    (whole (set cs h.count b) (set (set ps (h.count - 1) (k + 1)) h.count 0) vs rs (taken fs h (h.count + 1) h.position h.captures))
    (whole cs ps vs rs (break h))

-- "where they hold, all but eod write two words in the reading: construct number, first bit"; i is the first entry's construct
abbrev pub take_done : List ℕ → List ℕ → List ℕ → List ℤ → List ℕ → Head → ℕ → ℕ → ℕ → ℤ → Whole
take_done fs cs ps vs rs h i width binder n =
    cond (leb (2 * h.captures + 2) (length rs))
    (whole cs ps (bind binder n vs) (set (set rs (2 * h.captures) i) (2 * h.captures + 1) h.position) (taken fs h (h.count - 1) (h.position + width) (h.captures + 1)))
    (whole cs ps vs rs (break h))

-- what an act makes of all that a step may change; the first entry is (i, k)
abbrev pub effect : List ℕ → List ℕ → ℕ → ℕ → List ℕ → List ℕ → List ℤ → List ℕ → Head → Act → Whole
effect ws fs i k cs ps vs rs h Act.Broken = whole cs ps vs rs (break h)
effect ws fs i k cs ps vs rs h Act.Fail = whole cs ps vs rs (fail h)
effect ws fs i k cs ps vs rs h (Act.Enter b) = whole (set cs (h.count - 1) b) (set ps (h.count - 1) 0) vs rs (taken fs h h.count h.position h.captures)
effect ws fs i k cs ps vs rs h (Act.Members start end n) = members_done ws fs cs ps vs rs h start end n
effect ws fs i k cs ps vs rs h (Act.Again b) = again_done fs cs ps vs rs h k b
effect ws fs i k cs ps vs rs h Act.Leave = whole cs ps vs rs (taken fs h (h.count - 1) h.position h.captures)
effect ws fs i k cs ps vs rs h (Act.Take width binder n) = take_done fs cs ps vs rs h i width binder n

-- the same of the arrays that members are put into, whatever the others are
abbrev pub MembersDone : List ℕ → List ℕ → List ℕ → List ℕ → Head → ℕ → ℕ → ℕ → List ℕ → List ℕ → Head → Type 0
MembersDone ws fs cs ps h start end n cs' ps' h' = (vs : List ℤ) (rs : List ℕ) → whole cs' ps' vs rs h' ≡ members_done ws fs cs ps vs rs h start end n

-- of the arrays that a further pass writes
abbrev pub AgainDone : List ℕ → List ℕ → List ℕ → Head → ℕ → ℕ → List ℕ → List ℕ → Head → Type 0
AgainDone fs cs ps h k b cs' ps' h' = (vs : List ℤ) (rs : List ℕ) → whole cs' ps' vs rs h' ≡ again_done fs cs ps vs rs h k b

-- of those that a field writes
abbrev pub TakeDone : List ℕ → List ℤ → List ℕ → Head → ℕ → ℕ → ℕ → ℤ → List ℤ → List ℕ → Head → Type 0
TakeDone fs vs rs h i width binder n vs' rs' h' = (cs ps : List ℕ) → whole cs ps vs' rs' h' ≡ take_done fs cs ps vs rs h i width binder n

-- "condition 3's bound": weight × (bits + 1), from the table's weight word, which past 65,535 is against the layout
abbrev pub in_bound : List ℕ → List ℕ → ℕ → Bool
in_bound ws fs n = cond (leb (weight_of ws) max_weight) (ltb n (weight_of ws * (bits_of fs + 1))) false

-- "A step takes the first entry"; a number past the opening use's is "a table entry missing"
abbrev pub first_step : List ℕ → List ℕ → ℕ → ℕ → List ℕ → List ℕ → List ℤ → List ℕ → Head → Whole
first_step ws fs i k cs ps vs rs h = cond (leb i opening) (effect ws fs i k cs ps vs rs h (act_of ws fs vs h.position i k)) (whole cs ps vs rs (break h))

-- a step of an undecided run; "A decided, closed or broken run takes no more steps."
unfoldable pub step_of : List ℕ → List ℕ → Whole → Whole
step_of ws fs (whole cs ps vs rs h) =
    cond (eqb h.verdict undecided)
    (cond (in_bound ws fs h.steps)
    (cond (eqb h.count 0) (whole cs ps vs rs (break h)) (first_step ws fs (get_or cs (h.count - 1) 0) (get_or ps (h.count - 1) 0) cs ps vs rs h))
    (whole cs ps vs rs (break h)))
    (whole cs ps vs rs h)

-- so many steps
unfoldable pub steps_of : List ℕ → List ℕ → ℕ → Whole → Whole
steps_of ws fs zero w = w
steps_of ws fs (suc n) w = steps_of ws fs n (step_of ws fs w)

-- what 24 asks of a run that may take steps: position within the frame, no more entries than there may be, room for the fields recorded
abbrev pub Fits : List ℕ → Whole → Type 0
Fits fs (whole cs ps vs rs h) = (h.position ≤ 8 * length fs) × (h.count ≤ max_entries) × (2 * h.captures ≤ length rs) × (length cs ≡ max_entries) × (length ps ≡ max_entries)
