-- The judgement over a table's words: "1 to 11 are tried in order", then 12 and 13 (Req 06). 5 and 6, and 8's limits of widths, are what the layout asks (`laid`).
-- Assumes nothing.
use Rattle.std.specs.Prelude.{ℕ, Result, Ok, Err, ◌≤◌, ◌<◌, ◌≡◌, Bool, true, false, List, [], length}
use Rattle.basis.specs.Limits.{max_weight}
use Rattle.basis.specs.Bits.{Bits}
use Rattle.basis.specs.Patterns.{pattern_value}
use Rattle.theory.specs.Lookahead.{EmptyBody}
use Rattle.theory.specs.Weight.{Weighs}
use Rattle.table_layout.specs.Places.{construct_count}
use Rattle.term_evaluation.specs.Variables.{has_variable}
use Rattle.table_layout.specs.Constructs.{construct_at}
use Rattle.table_layout.specs.Held.{Context, first_context, held, opening, terms_of, in_set}
use Rattle.table_layout.specs.declared.Construct.{Construct}
use Rattle.table_wellformed.specs.Laid.{laid}
use Rattle.table_reach.specs.Reaching.{Acyclic, AllReached, FirstUnreached}
use Rattle.table_sizes.specs.Measures.{oversized}
use Rattle.table_conflicts.specs.Conflicts.{Conflicting, Answered}
use Rattle.table_judge.specs.declared.Fault.{Fault}

-- this paper's number; 0 is none
abbrev pub number_of : Result ℕ Fault → ℕ
number_of (Err (Fault.EmptyBody construct)) = 9
number_of (Err (Fault.Conflict construct clash)) = 10
number_of (Err Fault.Overweight) = 11
number_of (Err (Fault.Unreached rule)) = 12
number_of (Err (Fault.NoValue construct)) = 13
number_of (Ok weight) = 0

-- the least construct with the property
pub record Least (ws : List ℕ) (P : ℕ → Type 0) (i : ℕ) : Type 0 where
  pub there : i < construct_count ws
  pub holds : P i
  pub before : (j : ℕ) → j < i → P j → ⊥

-- nothing has the property
abbrev pub None : (ℕ → Type 0) → Type 0
None P = (i : ℕ) → P i → ⊥

-- refusal 8: construct i has a calculation whose size may pass 2^62
abbrev pub Oversized : List ℕ → ℕ → Type 0
Oversized ws i = oversized ws i ≡ true

-- "Weight … grammar, as a use of its start rule": of every function that gives weights (there is exactly one where no rule reaches itself)
abbrev pub Weighing : List ℕ → (ℕ → Type 0) → Type 0
Weighing ws P = (weight : Context → ℕ → ℕ) → Weighs (held ws) weight → P (weight first_context opening)

module _ (ws : List ℕ) where
  -- laid out (5 and 6), and no "rule reaches itself" (7)
  pub record Passed7 : Type 0 where
    pub laid_out : laid ws ≡ true
    pub acyclic : Acyclic ws

  -- and no calculation may pass 2^62 (8)
  pub record Passed8 : Type 0 where
    pub passed : Passed7
    pub sized : (i : ℕ) → i < construct_count ws → Oversized ws i → ⊥

  -- and no "repeated body has the empty first window" (9)
  pub record Passed9 : Type 0 where
    pub passed : Passed8
    pub no_empty_body : None (EmptyBody (held ws))

  -- and there is no "clash" (10)
  pub record Passed10 : Type 0 where
    pub passed : Passed9
    pub no_conflict : None (Conflicting ws)

  -- the grammar's weight is at most 65,535 (not 11)
  abbrev pub Light : Type 0
  Light = Weighing ws (λ n. n ≤ max_weight)

  -- construct i is "a uint whose set has no variable and no value left", or a sint: no pattern of its width has a value that is in it
  pub record Valueless (i : ℕ) : Type 0 where
    pub signed : Bool
    pub width : ℕ
    pub start : ℕ
    pub end : ℕ
    pub binder : ℕ
    pub is_uint : construct_at ws i ≡ Construct.Uint signed width start end binder
    pub no_variable : has_variable (terms_of ws start end) ≡ false
    pub none_left : (s : Bits) → length s ≡ width → in_set ws start end [] (pattern_value signed s) ≡ false

  -- the first of 9 to 13 that is given, or the weight
  abbrev pub Judged : Result ℕ Fault → Type 0
  -- 9: "repeated body has the empty first window"
  Judged (Err (Fault.EmptyBody construct)) = Passed8 × Least ws (EmptyBody (held ws)) construct
  -- 10: "clash; the answer carries the least common window"
  Judged (Err (Fault.Conflict construct clash)) = Passed9 × Least ws (Conflicting ws) construct × Answered ws construct clash
  -- 11: "weight over 65,535"
  Judged (Err Fault.Overweight) = Passed10 × Weighing ws (λ n. max_weight < n)
  -- 12: "a rule not reached from the start rule, at the first such name"
  Judged (Err (Fault.Unreached rule)) = Passed10 × Light × FirstUnreached ws rule
  -- 13: "a uint whose set has no variable and no value left, at the uint"
  Judged (Err (Fault.NoValue construct)) = Passed10 × Light × AllReached ws × Least ws Valueless construct
  Judged (Ok weight) = Passed10 × Weighing ws (λ n. n ≡ weight) × (weight ≤ max_weight) × AllReached ws × None Valueless
