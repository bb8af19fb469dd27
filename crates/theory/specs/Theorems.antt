-- The theorems, as statements with their hypotheses. `proofs/Theorems.antt` proves them: `first`, `follow`, `unique`, `values`, `local`,
-- `additive`, `exact`, `exact_local`, `bound`, `moments`, `room`.
-- g is a grammar, `tests` what the machine looks up, `weight` its constructs' weights, `rooms` enough room for each. What `Hypotheses`,
-- `Static`, `Outweighs`, `HasRoom` and `Lexical` ask, and which refusal of document 01 gives it, is said where they are defined.
-- Assumes nothing.
use Rattle.std.specs.Prelude.{ℕ, ◌+◌, ◌-◌, ◌*◌, ◌≤◌, ◌<◌, min, ◌≡◌, ◌↔◌, ◌≢◌, [], ◌++◌, length, drop}
use Rattle.basis.specs.Bits.{Bits}
use Rattle.basis.specs.Lookahead.{lookahead}
use Rattle.theory.specs.Grammar.{Grammar}
use Rattle.theory.specs.Derivation.{Tree, covered, captures, replayed, construct, Derives, Derivation, Leaves}
use Rattle.theory.specs.Lookahead.{First, Follow, Conflict}
use Rattle.theory.specs.Machine.{Tests, State, state, Run, run, undecided, matched, unmatched, verdict_of, state_of, pending_of, rest_of, position_of, captures_of, Passes, tree_steps, opened, granted, taken}
use Rattle.theory.specs.Weight.{Outweighs, HasRoom}
use Rattle.theory.specs.Hypotheses.{Static, Hypotheses}
use Rattle.theory.specs.Scope.{Store, Scope, localised, Lexical}

module _ {Context Values : Type 0} (g : Grammar Context Values) where
  -- First: a derivation over some bits puts the first 8 of them into FIRST.
  abbrev pub FirstTheorem : Type 0
  FirstTheorem = Static g → (i : ℕ) (t : Tree) (c : Context) (v v' : Values) (s r : Bits) → Derives g (construct i (g.node i)) t c v s v' r
      → (s ≡ covered t ++ r) × First g (construct i (g.node i)) (lookahead (covered t))

  -- Follow: what is left of the frame after any part of a derivation begins with a string of FOLLOW.
  abbrev pub FollowTheorem : Type 0
  FollowTheorem = Static g → (s : Bits) (t : Tree) (v : Values) → Derivation g s t v → (i : ℕ) (r : Bits) → Leaves t s i r → Follow g i (lookahead r)

  -- Unique (condition 3, "at most one derivation"): without conflicts any two derivations of one frame are the same tree.
  abbrev pub UniqueTheorem : Type 0
  UniqueTheorem = Static g → ((i : ℕ) (x : Bits) → Conflict g i x → ⊥)
      → (s : Bits) (t t' : Tree) (v v' : Values) → Derivation g s t v → Derivation g s t' v' → (t ≡ t') × (v ≡ v')

  -- Values: a derivation ends with the values that its tree, replayed, makes.
  abbrev pub ValuesTheorem : Type 0
  ValuesTheorem = (s : Bits) (t : Tree) (v : Values) → Derivation g s t v → v ≡ replayed g t g.context g.values

  -- some derivation covers the frame
  abbrev pub Derivable : Bits → Type 0
  Derivable s = (t : Tree) × (v : Values) × Derivation g s t v

-- Local: threading the values of a store through a derivation gives the same trees as variables local to each opening of a rule, and the
-- same is reported.
abbrev pub LocalTheorem : {Context Values Cell A R : Type 0} → Store Context Values Cell A R → Scope → (ℕ → Context → Values → Values) → Grammar Context Values → Type 0
LocalTheorem {Context} {Values} {Cell} {A} {R} store scope fresh g = Static g → Lexical store scope fresh g
    → (s : Bits) (t : Tree) (r : R)
    → ((v : Values) × Derivation g s t v × (store.reported v ≡ r)) ↔ ((v : Values) × Derivation (localised store scope fresh g) s t v × (store.reported v ≡ r))

module _ {Context Values : Type 0} (g : Grammar Context Values) (tests : Tests) where
  -- Additive: running m steps and then n is running m + n; a decided run takes none and changes nothing.
  pub record AdditiveTheorem : Type 0 where
    pub granted_sum : (m n : ℕ) (r : Run Context Values) → granted g tests (m + n) r ≡ granted g tests n (granted g tests m r)
    pub taken_sum : (m n : ℕ) (r : Run Context Values) → taken g tests (m + n) r ≡ taken g tests m r + taken g tests n (granted g tests m r)
    pub decided_stays : (n : ℕ) (r : Run Context Values) → verdict_of r ≢ undecided → (granted g tests n r ≡ r) × (taken g tests n r ≡ 0)

  module _ (weight : Context → ℕ → ℕ) where
    -- weight × (bits + 1), the weight being that of a use of the start rule
    abbrev pub step_bound : Bits → ℕ
    step_bound s = weight g.context g.start * (length s + 1)

    -- Exact: given enough steps the machine says match exactly when a derivation covers the frame, with that derivation's captures and
    -- values, in exactly the tree's number of steps; it says no match exactly when there is none.
    pub record Exact : Type 0 where
      pub match_iff : (s : Bits) (n : ℕ) → step_bound s ≤ n → (verdict_of (granted g tests n (opened g tests s)) ≡ matched) ↔ Derivable g s
      pub mismatch_iff : (s : Bits) (n : ℕ) → step_bound s ≤ n → (verdict_of (granted g tests n (opened g tests s)) ≡ unmatched) ↔ (Derivable g s → ⊥)
      pub match_end : (s : Bits) (t : Tree) (v : Values) → Derivation g s t v → (n : ℕ) → tree_steps t ≤ n
          → granted g tests n (opened g tests s) ≡ run (state [] [] (length s) v (captures t 0)) (tree_steps t) matched

    -- of a grammar without refusals and weights that are large enough
    abbrev pub ExactTheorem : Type 0
    ExactTheorem = Hypotheses g tests → Outweighs g weight → Exact

    -- Exact, of derivations whose variables are local to each opening of a rule, as document 01 has them: the fields, and what is reported,
    -- are the derivation's.
    pub record ExactLocal {R : Type 0} (reported : Values → R) (localised-g : Grammar Context Values) : Type 0 where
      pub match_iff : (s : Bits) (n : ℕ) → step_bound s ≤ n → (verdict_of (granted g tests n (opened g tests s)) ≡ matched) ↔ Derivable localised-g s
      pub mismatch_iff : (s : Bits) (n : ℕ) → step_bound s ≤ n → (verdict_of (granted g tests n (opened g tests s)) ≡ unmatched) ↔ (Derivable localised-g s → ⊥)
      pub match_end : (s : Bits) (t : Tree) (v : Values) → Derivation localised-g s t v → (n : ℕ) → tree_steps t ≤ n
          → (v' : Values) × Derivation g s t v' × (granted g tests n (opened g tests s) ≡ run (state [] [] (length s) v' (captures t 0)) (tree_steps t) matched) × (reported v' ≡ reported v)
      pub once : (s : Bits) (t t' : Tree) (v v' : Values) → Derivation localised-g s t v → Derivation localised-g s t' v' → t ≡ t'

    -- the same, where names keep to document 01's rules
    abbrev pub ExactLocalTheorem : {Cell A R : Type 0} → Store Context Values Cell A R → Scope → (ℕ → Context → Values → Values) → Type 0
    ExactLocalTheorem store scope fresh = Hypotheses g tests → Outweighs g weight → Lexical store scope fresh g → ExactLocal store.reported (localised store scope fresh g)

    -- Bound: decided within weight × (bits + 1) steps; the steps taken in all are the smaller of those granted and those needed.
    pub record Decision (s : Bits) : Type 0 where
      pub needed : ℕ
      pub within_bound : needed ≤ step_bound s
      pub undecided_iff : (n : ℕ) → (verdict_of (granted g tests n (opened g tests s)) ≡ undecided) ↔ (n < needed)
      pub taken_min : (n : ℕ) → taken g tests n (opened g tests s) ≡ min n needed
      -- "the smaller of its grant and the steps still missing until decided"
      pub taken_later : (m n : ℕ) → taken g tests n (granted g tests m (opened g tests s)) ≡ min n (needed - m)

    -- of every frame
    abbrev pub BoundTheorem : Type 0
    BoundTheorem = Hypotheses g tests → Outweighs g weight → (s : Bits) → Decision s

    -- At every moment of a run: what is left is the frame from the position on; captures never exceed the bits, those unread not counted;
    -- passes never exceed bits + 1.
    pub record Moment (s : Bits) (σ : State Context Values) : Type 0 where
      pub rest_is : rest_of σ ≡ drop (position_of σ) s
      pub position_within : position_of σ ≤ length s
      pub captures_few : length (captures_of σ) + length (rest_of σ) ≤ length s
      pub passes_few : Passes (pending_of σ) (length s + 1)

    -- of every frame and after any number of steps
    abbrev pub MomentTheorem : Type 0
    MomentTheorem = Hypotheses g tests → Outweighs g weight → (s : Bits) (n : ℕ) → Moment s (state_of (granted g tests n (opened g tests s)))

  -- Room: the list of pending entries never grows longer than the room that the opening use is given.
  abbrev pub RoomTheorem : (Context → ℕ → ℕ) → Type 0
  RoomTheorem rooms = Hypotheses g tests → HasRoom g rooms → (s : Bits) (n : ℕ) → length (pending_of (state_of (granted g tests n (opened g tests s)))) ≤ rooms g.context g.start
