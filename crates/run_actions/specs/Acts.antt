-- What a step does with the first entry, decided by reading alone. `ws` are the table's words, `fs` the frame's bytes, `vs` the values,
-- `p` the position, and (i, k) the first entry.
-- "A step takes the first entry: a rule use becomes its body; a concatenation its members; a switch its case; an alternative the branch
-- whose windows hold what comes next, else no match; a repetition with no count allowed, no match; else, below its least count, its body
-- and itself again; at or past its greatest, nothing; between, by go or stop, in neither no match. Literal, range, uint and eod compare".
-- Broken where "a table entry missing or against the layout, a calculation past 2^62" is met.
-- Assumes nothing.
use Rattle.std.specs.Prelude.{ℕ, zero, suc, ◌+◌, ◌*◌, ◌-◌, ◌≤◌, ◌<◌, ◌≡◌, Bool, true, false, cond, ◌&&◌, List, leb, ltb, eqb, ℤ, pos, length, take, drop, Result, Ok, Err}
use Rattle.basis.specs.Limits.{max_constructs, max_variables}
use Rattle.basis.specs.Bits.{value, frame_bits, same}
use Rattle.basis.specs.Patterns.{pattern_value}
use Rattle.basis.specs.Lookahead.{lookahead, number}
use Rattle.term_evaluation.specs.Meaning.{membership, condition}
use Rattle.term_evaluation.specs.Counts.{counts}
use Rattle.table_layout.specs.Places.{rule_word, construct_word, rule_count, construct_count, variable_count, term_count}
use Rattle.table_layout.specs.Constructs.{construct_at}
use Rattle.table_layout.specs.Held.{term_words, terms_of, size_of, literal_bytes, opening}
use Rattle.table_layout.specs.declared.Construct.{Construct}
use Rattle.table_layout.specs.declared.Passes.{Passes}
use Rattle.run_actions.specs.Stored.{stored, prediction_at, follow_at}
use Rattle.run_actions.specs.declared.Act.{Act}
use Rattle.term_words.specs.declared.TermError.{TermError}
use Rattle.term_evaluation.specs.declared.Allowed.{Allowed}

-- "An entry isn't in the table": a number past the limit or past the table's count
abbrev pub in_table : List ℕ → ℕ → Bool
in_table ws i = ltb i max_constructs && ltb i (construct_count ws)

-- the whole of a construct is in the table, its parts too: where not, "a table entry missing"
abbrev pub whole_in_table : List ℕ → ℕ → Bool
whole_in_table ws i = leb (i + size_of (construct_at ws i)) (construct_count ws)

-- a list of terms up to number `end`, and a binder (1 + its variable): within the table's counts of terms and variables
abbrev pub terms_in_table : List ℕ → ℕ → Bool
terms_in_table ws end = leb end (term_count ws)

abbrev pub binder_in_table : List ℕ → ℕ → Bool
binder_in_table ws binder = leb binder (variable_count ws)

-- the values of the table's variables: a use of another one is malformed
abbrev pub known_values : List ℕ → List ℤ → List ℤ
known_values ws vs = take (variable_count ws) vs

-- a construct takes the entry's place
abbrev pub enter : List ℕ → ℕ → Act
enter ws i = cond (in_table ws i) (Act.Enter i) Act.Broken

-- a rule's use becomes its body, where there is such a rule
abbrev pub open_rule : List ℕ → ℕ → Act
open_rule ws rule = cond (ltb rule (rule_count ws)) (enter ws (rule_word ws rule 0)) Act.Broken

-- what comes next at a position, by its number
abbrev pub ahead_at : List ℕ → ℕ → ℕ
ahead_at fs p = number (lookahead (drop p (frame_bits fs)))

-- the bits of a frame
abbrev pub bits_of : List ℕ → ℕ
bits_of fs = 8 * length fs

-- ---- parts, from number j up to number `end`

-- one after the other: `visit j rest` at each, where `rest` is what the parts after it make; a missing one is against the layout
unfoldable pub walk : {A : Type 0} → (ℕ → A → A) → A → A → ℕ → List ℕ → ℕ → ℕ → A
walk visit done broken zero ws j end = done
walk visit done broken (suc most) ws j end =
    elim (ltb j end) [
      | true ↦ visit j (elim (eqb (size_of (construct_at ws j)) 0) [ true ↦ broken | false ↦ walk visit done broken most ws (j + size_of (construct_at ws j)) end ])
      | false ↦ done
    ]

-- the first branch whose prediction set holds what comes next, number n; a bad one before it is against the layout
abbrev pub by_branch : Bool → ℕ → Act → Act
by_branch true j rest = Act.Enter j
by_branch false j rest = rest

-- "an alternative the branch whose windows hold what comes next, else no match": of the branches from number j up to number `end`
abbrev pub branch_act : List ℕ → ℕ → ℕ → ℕ → Act
branch_act ws n j end = walk (λ i rest. by_branch (stored ws (prediction_at i) n) i rest) Act.Fail Act.Broken (end - j) ws j end

-- the first true case; one without a condition is the default
abbrev pub case_test : List ℕ → List ℤ → ℕ → Result Bool TermError
case_test ws vs j =
    cond (ltb (construct_word ws j 6) (construct_word ws j 7))
    (cond (terms_in_table ws (construct_word ws j 7)) (condition vs (construct_word ws j 6) (terms_of ws (construct_word ws j 6) (construct_word ws j 7))) (Err TermError.Malformed))
    (Ok true)

-- a true case is taken; "a calculation past 2^62" and terms against the layout are broken
abbrev pub by_case : Result Bool TermError → ℕ → Act → Act
by_case (Ok true) j rest = Act.Enter j
by_case (Ok false) j rest = rest
by_case (Err e) j rest = Act.Broken

-- "a switch its case"; with no true case and no default it "takes no bits and goes on" (Req 02)
abbrev pub case_act : List ℕ → List ℤ → ℕ → ℕ → Act
case_act ws vs j end = walk (λ i rest. by_case (case_test ws vs i) i rest) Act.Leave Act.Broken (end - j) ws j end

-- the members, counted
abbrev pub members_act : List ℕ → ℕ → ℕ → Act
members_act ws start end = walk {A = ℕ → Act} (λ i rest n. rest (n + 1)) (λ n. Act.Members start end n) (λ n. Act.Broken) (end - start) ws start end 0

-- ---- repetitions

-- "between, by go or stop, in neither no match"; without clashes the two never hold together
abbrev pub by_lookahead : Bool → Bool → ℕ → Act
by_lookahead true exits b = Act.Again b
by_lookahead false true b = Act.Leave
by_lookahead false false b = Act.Fail

-- lookahead is asked only where the counts leave a choice
abbrev pub choice_act : List ℕ → ℕ → ℕ → Act
choice_act ws n i = by_lookahead (stored ws (prediction_at (i + 1)) n) (stored ws (follow_at i) n) (i + 1)

-- "with no count allowed, no match; else, below its least count, its body and itself again; at or past its greatest, nothing"
abbrev pub turn_act : List ℕ → ℕ → ℕ → ℕ → Result Allowed TermError → Act
turn_act ws n i k (Ok Allowed.None) = Act.Fail
turn_act ws n i k (Ok (Allowed.From low)) = cond (ltb k low) (Act.Again (i + 1)) (choice_act ws n i)
turn_act ws n i k (Ok (Allowed.Within low more)) = cond (ltb k low) (Act.Again (i + 1)) (cond (leb (low + more) k) Act.Leave (choice_act ws n i))
turn_act ws n i k (Err e) = Act.Broken

-- the counts that a repetition allows at these values, by how it is written
abbrev pub counted : List ℕ → List ℤ → Passes → Result Allowed TermError
counted ws vs Passes.Optional = Ok (Allowed.Within 0 1)
counted ws vs Passes.Any = Ok (Allowed.From 0)
counted ws vs Passes.Some = Ok (Allowed.From 1)
counted ws vs (Passes.Counted start end) = cond (terms_in_table ws end) (counts vs (term_words ws) start end) (Err TermError.Malformed)

-- ---- fields: "no match on a difference or too few bits"

-- n bytes of the literal of construct i, from byte k on, stand where its first byte would stand at bit p
abbrev pub literal_holds : List ℕ → List ℕ → ℕ → ℕ → ℕ → ℕ → Bool
literal_holds ws fs p i k n = same (take (8 * n) (drop (p + 8 * k) (frame_bits fs))) (frame_bits (literal_bytes ws i k n))

-- a literal of n bytes: "no match on a difference or too few bits"
abbrev pub literal_act : List ℕ → List ℕ → ℕ → ℕ → ℕ → Act
literal_act ws fs p i n =
    cond (leb (p + 8 * n) (bits_of fs)) (cond (literal_holds ws fs p i 0 n) (Act.Take (8 * n) 0 (pos 0)) Act.Fail) Act.Fail

-- "a range of one-character literals": the next 8 bits are a number from the one character to the other
abbrev pub range_act : List ℕ → ℕ → ℕ → ℕ → Act
range_act fs p low high =
    cond (leb (p + 8) (bits_of fs))
    (cond (leb low (value (take 8 (drop p (frame_bits fs)))) && leb (value (take 8 (drop p (frame_bits fs)))) high) (Act.Take 8 0 (pos 0)) Act.Fail)
    Act.Fail

-- what is bound, where there is a binder; 0 where there is none, and never looked at
abbrev pub kept : ℕ → ℤ → ℤ
kept zero n = pos 0
kept (suc x) n = n

-- a value that is in the set is taken; "a calculation past 2^62" and terms against the layout are broken
abbrev pub by_set : Result Bool TermError → ℕ → ℕ → ℤ → Act
by_set (Ok true) width binder n = Act.Take width binder n
by_set (Ok false) width binder n = Act.Fail
by_set (Err e) width binder n = Act.Broken

-- the number that so many bits from bit p on are
abbrev pub number_at : List ℕ → ℕ → Bool → ℕ → ℤ
number_at fs p signed width = pattern_value signed (take width (drop p (frame_bits fs)))

-- "`uint(width, set)`, …, most significant bit first", or a sint: so many bits are there, and the number that they are is in the set
abbrev pub bits_act : List ℕ → List ℕ → List ℤ → ℕ → Bool → ℕ → ℕ → ℕ → ℕ → Act
bits_act ws fs vs p signed width start end binder =
    cond (leb (p + width) (bits_of fs))
    (by_set (membership vs (number_at fs p signed width) start (terms_of ws start end)) width binder (kept binder (number_at fs p signed width)))
    Act.Fail

-- of a uint whose set and variable are in the table
abbrev pub uint_act : List ℕ → List ℕ → List ℤ → ℕ → Bool → ℕ → ℕ → ℕ → ℕ → Act
uint_act ws fs vs p signed width start end binder =
    cond (terms_in_table ws end && binder_in_table ws binder) (bits_act ws fs vs p signed width start end binder) Act.Broken

-- "`eod`, which takes no bits and holds only at the frame's end"
abbrev pub end_act : List ℕ → ℕ → Act
end_act fs p = cond (eqb p (bits_of fs)) Act.Leave Act.Fail

-- ---- all kinds

-- what is done with the first entry, by what its construct is
abbrev pub construct_act : List ℕ → List ℕ → List ℤ → ℕ → ℕ → ℕ → Construct → Act
construct_act ws fs vs p i k Construct.Missing = Act.Broken
construct_act ws fs vs p i k (Construct.Alternative size) = branch_act ws (ahead_at fs p) (i + 1) (i + size)
construct_act ws fs vs p i k (Construct.Concatenation size) = members_act ws (i + 1) (i + size)
construct_act ws fs vs p i k (Construct.Repetition size passes) = turn_act ws (ahead_at fs p) i k (counted ws vs passes)
construct_act ws fs vs p i k (Construct.Switch size) = case_act ws vs (i + 1) (i + size)
construct_act ws fs vs p i k (Construct.Use rule) = open_rule ws rule
construct_act ws fs vs p i k (Construct.Literal n) = literal_act ws fs p i n
construct_act ws fs vs p i k (Construct.Range low high) = range_act fs p low high
construct_act ws fs vs p i k (Construct.Uint signed width start end binder) = uint_act ws fs vs p signed width start end binder
construct_act ws fs vs p i k Construct.Eod = end_act fs p

-- the opening use of the start rule has a number of its own
unfoldable pub act_of : List ℕ → List ℕ → List ℤ → ℕ → ℕ → ℕ → Act
act_of ws fs vs p i k = cond (eqb i opening) (open_rule ws 0) (cond (whole_in_table ws i) (construct_act ws fs (known_values ws vs) p i k (construct_at ws i)) Act.Broken)

-- how many parts stand from number `start` up to number `end`
abbrev pub part_count : List ℕ → ℕ → ℕ → ℕ
part_count ws start end = walk (λ j rest. rest + 1) 0 0 (end - start) ws start end

-- what holds of every act that is decided at bit p, whatever the words: what it leads to is in the table
abbrev pub Doable : List ℕ → List ℕ → ℕ → Act → Type 0
Doable ws fs p Act.Broken = Unit {0}
Doable ws fs p Act.Fail = Unit {0}
Doable ws fs p (Act.Enter b) = (b < max_constructs) × (b < construct_count ws)
Doable ws fs p (Act.Members start end n) = (end ≤ max_constructs) × (n ≤ max_constructs) × (end ≤ construct_count ws) × (n ≡ part_count ws start end)
Doable ws fs p (Act.Again b) = (b < max_constructs) × (b < construct_count ws)
Doable ws fs p Act.Leave = Unit {0}
Doable ws fs p (Act.Take width binder n) = (p + width ≤ bits_of fs) × (binder ≤ max_variables) × (1 ≤ width)
