-- The machine. "A run holds a position, a to-do list, variable values, fields recorded, steps taken and a verdict."
-- Assumes nothing.
use Prim.Native.Nat.{ℕ, zero, suc, ◌+◌, ◌-◌, ◌≤◌}
use Rattle.std.specs.Prelude.{Bool, leb, ltb, length, take, drop}
use Rattle.std.proofs.Math.Bool.{true, false}
use mathlib.Core.List.{List, [], ◌∷◌, ◌++◌, map}
use Rattle.std.proofs.Math.Option.{Option, none, some}
use Rattle.basis.specs.Bits.{Bits}
use Rattle.basis.specs.Counts.{Counts, from, within}
use Rattle.basis.specs.Lookahead.{lookahead}
use Rattle.theory.specs.Grammar.{Node, alternative, concatenation, repetition, switch, use_of, field, eod, Grammar}
use Rattle.theory.specs.Derivation.{Capture, Tree, leaf, end, node, nil, member, pass}

-- What the machine looks up of a lookahead string: is it in a branch's prediction set, does it let a repetition continue (go), does it
-- let it exit (stop)?
pub record Tests : Type 0 where
  pub predicts : ℕ → Bits → Bool
  pub continues : ℕ → Bits → Bool
  pub exits : ℕ → Bits → Bool

-- A pending entry (of document 01's to-do list): a construct, its context, and of a repetition the passes begun.
pub data Entry (Context : Type 0) : Type 0 where
  entry : (construct : ℕ) (context : Context) (passes : ℕ) → Entry Context

-- `rest`: the frame's bits from `position` on
pub data State (Context Values : Type 0) : Type 0 where
  state : (pending : List (Entry Context)) (rest : Bits) (position : ℕ) (values : Values) (captures : List Capture) → State Context Values

-- the parts of a state
abbrev pub pending_of : {Context Values : Type 0} → State Context Values → List (Entry Context)
pending_of (state es s p v cs) = es

abbrev pub rest_of : {Context Values : Type 0} → State Context Values → Bits
rest_of (state es s p v cs) = s

abbrev pub position_of : {Context Values : Type 0} → State Context Values → ℕ
position_of (state es s p v cs) = p

abbrev pub captures_of : {Context Values : Type 0} → State Context Values → List Capture
captures_of (state es s p v cs) = cs

-- no pending entry has begun more than n passes
abbrev pub Passes : {Context : Type 0} → List (Entry Context) → ℕ → Type 0
Passes [] n = Unit {0}
Passes (entry i c k ∷ es) n = (k ≤ n) × Passes es n

-- What a repetition does at its turn.
pub data Turn : Type 0 where
  fail again leave : Turn

-- "between, by go or stop, in neither no match"
unfoldable pub by_lookahead : Bool → Bool → Turn
by_lookahead true exits = again
by_lookahead false true = leave
by_lookahead false false = fail

-- "a repetition with no count allowed, no match; else, below its least count, its body and itself again; at or past its greatest,
-- nothing; between, by go or stop"
unfoldable pub turn : Counts → ℕ → Bool → Bool → Turn
unfolding by_lookahead
turn Counts.none k continues exits = fail
turn (from low) k continues exits = elim (ltb k low) [ true ↦ again | false ↦ by_lookahead continues exits ]
turn (within low more) k continues exits =
    elim (ltb k low) [ true ↦ again | false ↦ elim (leb (low + more) k) [ true ↦ leave | false ↦ by_lookahead continues exits ] ]

-- "an alternative the branch whose windows hold what comes next"
unfoldable pub choose : (ℕ → Bool) → List ℕ → Option ℕ
choose holds [] = none
choose holds (b ∷ bs) = elim (holds b) [ true ↦ some b | false ↦ choose holds bs ]

-- these constructs, to be done in this order
abbrev pub entries : {Context : Type 0} → Context → List ℕ → List (Entry Context)
entries c is = map (λ i. entry i c 0) is

module _ {Context Values : Type 0} (g : Grammar Context Values) (tests : Tests) where
  -- "A step takes the first entry": what the entry (i, c, k) of this node makes of a state whose other entries are `others`, or none
  -- where it fails
  unfoldable pub act : Node Context Values → ℕ → Context → ℕ → List (Entry Context) → Bits → ℕ → Values → List Capture → Option (State Context Values)
  unfolding turn choose
  act (alternative is) i c k others s p v cs =
      elim (choose (λ b. tests.predicts b (lookahead s)) is) [ none ↦ none | some b ↦ some (state (entry b c 0 ∷ others) s p v cs) ]
  act (concatenation is) i c k others s p v cs = some (state (entries c is ++ others) s p v cs)
  act (repetition counts static fixed b) i c k others s p v cs =
      elim (turn (counts c v) k (tests.continues i (lookahead s)) (tests.exits i (lookahead s))) [
        | fail ↦ none
        | again ↦ some (state (entry b c 0 ∷ entry i c (suc k) ∷ others) s p v cs)
        | leave ↦ some (state others s p v cs)
      ]
  -- "its first true case, else the default"; with no true case and no default it "takes no bits and goes on" (Req 02)
  act (switch chosen optional is) i c k others s p v cs =
      elim (chosen c v) [ none ↦ elim optional [ true ↦ some (state others s p v cs) | false ↦ none ] | some b ↦ some (state (entry b c 0 ∷ others) s p v cs) ]
  act (use_of enters opens closes b) i c k others s p v cs =
      elim (enters c) [ none ↦ none | some c' ↦ some (state (entry b c' 0 ∷ others) s p (opens c v) cs) ]
  -- "compare, no match on a difference or too few bits; where they hold, all but eod write two words in the reading"
  act (field w admits static binds) i c k others s p v cs =
      elim (leb (w s) (length s)) [
        | true ↦
            elim (admits c v (take (w s) s))
            [ true ↦ some (state others (drop (w s) s) (p + w s) (binds c v (take (w s) s)) (cs ++ (record { construct = i; first_bit = p } ∷ []))) | false ↦ none ]
        | false ↦ none
      ]
  act eod i c k others [] p v cs = some (state others [] p v cs)
  act eod i c k others (b ∷ s) p v cs = none

  -- a step on a state; none where it fails. An undecided run with an empty list does not come from an opening (the step that empties the
  -- list decides): what is said of it here is arbitrary, and the matcher, which any run may reach, calls it broken.
  unfoldable pub step : State Context Values → Option (State Context Values)
  unfolding act
  step (state [] s p v cs) = none
  step (state (entry i c k ∷ others) s p v cs) = act (g.node i) i c k others s p v cs

-- the steps that a run takes over a derivation: one for each construct of the tree, and for a repetition one more with each pass
unfoldable pub tree_steps : Tree → ℕ
tree_steps (leaf i bits) = 1
tree_steps (end i) = 1
tree_steps (node i t) = 1 + tree_steps t
tree_steps nil = 0
tree_steps (member t u) = tree_steps t + tree_steps u
tree_steps (pass t u) = 1 + tree_steps t + tree_steps u

-- "match", "no match", or neither yet
pub data Verdict : Type 0 where
  undecided matched unmatched : Verdict

-- "When the list is empty the run is decided: match at the end of the frame, else no match."
unfoldable pub verdict : {Context Values : Type 0} → State Context Values → Verdict
verdict (state [] [] p v cs) = matched
verdict (state [] (b ∷ s) p v cs) = unmatched
verdict (state (e ∷ es) s p v cs) = undecided

-- a state, "steps taken and a verdict"
pub data Run (Context Values : Type 0) : Type 0 where
  run : (now : State Context Values) (taken : ℕ) (verdict : Verdict) → Run Context Values

-- the parts of a run
abbrev pub verdict_of : {Context Values : Type 0} → Run Context Values → Verdict
verdict_of (run σ n d) = d

abbrev pub state_of : {Context Values : Type 0} → Run Context Values → State Context Values
state_of (run σ n d) = σ

-- the steps that a run has taken
abbrev pub taken_of : {Context Values : Type 0} → Run Context Values → ℕ
taken_of (run σ n d) = n

module _ {Context Values : Type 0} (g : Grammar Context Values) (tests : Tests) where
  -- "It opens undecided, with a use of the start rule on its list and the rest 0."
  unfoldable pub open_state : Bits → State Context Values
  open_state s = state (entry g.start g.context 0 ∷ []) s 0 g.values []

  -- no step is taken yet
  unfoldable pub opened : Bits → Run Context Values
  unfolding open_state
  opened s = run (open_state s) 0 undecided

  -- "Where a step fails, position, list, values and fields stay as before it". "A decided … run takes no more steps." (The matcher adds closed and
  -- broken runs.)
  unfoldable pub stepped : Run Context Values → Run Context Values
  unfolding step verdict
  stepped (run σ n undecided) = elim (step g tests σ) [ none ↦ run σ (suc n) unmatched | some σ' ↦ run σ' (suc n) (verdict σ') ]
  stepped (run σ n matched) = run σ n matched
  stepped (run σ n unmatched) = run σ n unmatched

  -- a run granted n steps
  unfoldable pub granted : ℕ → Run Context Values → Run Context Values
  unfolding stepped
  granted zero r = r
  granted (suc n) r = granted n (stepped r)

  -- "the answer says how many were taken"
  unfoldable pub taken : ℕ → Run Context Values → ℕ
  unfolding granted
  taken n r = taken_of (granted n r) - taken_of r
