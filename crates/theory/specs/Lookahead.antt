-- FIRST and FOLLOW sets (document 01's first and follow windows), prediction sets (a branch's windows), conflicts (clashes).
-- The sets are predicates on strings of at most 8 bits, given by their rules alone, so they are the least sets that meet the rules.
-- Assumes nothing.
use Rattle.std.specs.Prelude.{ℕ, zero, suc, ◌≤◌, ◌≡◌, ◌≢◌, Bool, true, false, List, [], ◌∷◌, ◌++◌, length}
use Rattle.std.proofs.Math.Option.{Option}
use Rattle.basis.specs.Bits.{Bits}
use Rattle.basis.specs.Counts.{Counts, Allows}
use Rattle.basis.specs.Lookahead.{lookahead, join, number}
use Rattle.theory.specs.Grammar.{alternative, concatenation, repetition, switch, use_of, field, eod, Grammar, ◌∈◌}
use Rattle.theory.specs.Derivation.{Shape, construct, members, passes}

-- "First windows": of a construct, of members in a row, of so many passes
pub data First {Context Values : Type 0} (g : Grammar Context Values) : Shape Context Values → Bits → Type 0 where
  -- "of a field, the leading 8 bits (or all, if fewer) of each bit pattern it admits, a set with a variable counting as `~`"
  of_field : {i : ℕ} {w : Bits → ℕ} {admits : Context → Values → Bits → Bool} {static : Bits → Bool} {binds : Context → Values → Bits → Values} {x : Bits} (bits : Bits)
      → length bits ≡ w bits → static bits ≡ true → x ≡ lookahead bits → First g (construct i (field w admits static binds)) x
  -- "of eod, the empty one"
  of_eod : {i : ℕ} → First g (construct i eod) []
  -- "of alternatives and switches, the union"
  of_alternative : {i b : ℕ} {is : List ℕ} {x : Bits} → b ∈ is → First g (construct b (g.node b)) x → First g (construct i (alternative is)) x
  of_switch : {i b : ℕ} {chosen : Context → Values → Option ℕ} {optional : Bool} {is : List ℕ} {x : Bits} → b ∈ is → First g (construct b (g.node b)) x → First g (construct i (switch chosen optional is)) x
  -- "a switch without a default also has the empty first window" (Req 02)
  of_no_case : {i : ℕ} {chosen : Context → Values → Option ℕ} {optional : Bool} {is : List ℕ} → optional ≡ true → First g (construct i (switch chosen optional is)) []
  -- "of a rule use, its rule's"
  of_use : {i b : ℕ} {enters : Context → Option Context} {opens : Context → Values → Values} {closes : Values → Values → Values} {x : Bits}
      → First g (construct b (g.node b)) x → First g (construct i (use_of enters opens closes b)) x
  -- "of a concatenation, the joined windows, cut at 8 (a join with no windows has none)"
  of_concatenation : {i : ℕ} {is : List ℕ} {x : Bits} → First g (members is) x → First g (construct i (concatenation is)) x
  no_members : First g (members []) []
  more_members : {m : ℕ} {is : List ℕ} {x y z : Bits} → First g (construct m (g.node m)) x → First g (members is) y → z ≡ join x y → First g (members (m ∷ is)) z
  -- "of a repetition, the join of k passes for each k its counts allow, counts with a variable allowing all"
  of_repetition : {i b : ℕ} {counts : Context → Values → Counts} {static : Counts} {fixed : Bool} {x : Bits} (k : ℕ)
      → Allows static k → First g (passes b k) x → First g (construct i (repetition counts static fixed b)) x
  no_passes : {b : ℕ} → First g (passes b zero) []
  more_passes : {b k : ℕ} {x y z : Bits} → First g (construct b (g.node b)) x → First g (passes b k) y → z ≡ join x y → First g (passes b (suc k)) z

-- "Follow windows": of a construct, by its number
pub data Follow {Context Values : Type 0} (g : Grammar Context Values) : ℕ → Bits → Type 0 where
  -- "of the start rule, the empty one": it is what follows the opening use
  of_start : {i : ℕ} → i ≡ g.start → Follow g i []
  -- "of a rule, also those of all its uses"
  of_rule : {i b : ℕ} {enters : Context → Option Context} {opens : Context → Values → Values} {closes : Values → Values → Values} {x : Bits}
      → g.node i ≡ use_of enters opens closes b → Follow g i x → Follow g b x
  -- "of a member, the first windows of the members after it, joined with its concatenation's follow"
  of_member : {i m : ℕ} {x y z : Bits} (before after : List ℕ)
      → g.node i ≡ concatenation (before ++ m ∷ after) → First g (members after) x → Follow g i y → z ≡ join x y → Follow g m z
  -- "of a branch or a case, its owner's"
  of_branch : {i b : ℕ} {is : List ℕ} {x : Bits} → g.node i ≡ alternative is → b ∈ is → Follow g i x → Follow g b x
  of_case : {i b : ℕ} {chosen : Context → Values → Option ℕ} {optional : Bool} {is : List ℕ} {x : Bits} → g.node i ≡ switch chosen optional is → b ∈ is → Follow g i x → Follow g b x
  -- "of a repeated body, zero or more further passes, joined with the repetition's follow"
  of_body : {i b : ℕ} {counts : Context → Values → Counts} {static : Counts} {fixed : Bool} {x y z : Bits} (k : ℕ)
      → g.node i ≡ repetition counts static fixed b → First g (passes b k) x → Follow g i y → z ≡ join x y → Follow g b z

-- "A branch's windows are its first joined with its follow."
pub data Predicted {Context Values : Type 0} (g : Grammar Context Values) (i : ℕ) : Bits → Type 0 where
  predicted : {x y z : Bits} → First g (construct i (g.node i)) x → Follow g i y → z ≡ join x y → Predicted g i z

-- "*go* is one or more passes joined with follow, *stop* is follow": what lets the repetition i of the body b continue, or exit
pub data Continues {Context Values : Type 0} (g : Grammar Context Values) (i b : ℕ) : Bits → Type 0 where
  continues : {x y z : Bits} (k : ℕ) → First g (passes b (suc k)) x → Follow g i y → z ≡ join x y → Continues g i b z

-- "*stop* is follow"
abbrev pub Exits : {Context Values : Type 0} → Grammar Context Values → ℕ → Bits → Type 0
Exits g i x = Follow g i x

-- "A clash is a window common to two branches of one alternative, or to go and stop. Cases of a switch don't clash: the condition
-- decides." Only "a repetition not written `{n}`" has go and stop.
pub data Conflict {Context Values : Type 0} (g : Grammar Context Values) (i : ℕ) (x : Bits) : Type 0 where
  of_branches : {a b : ℕ} {is : List ℕ} → g.node i ≡ alternative is → a ∈ is → b ∈ is → a ≢ b → Predicted g a x → Predicted g b x → Conflict g i x
  of_passes : {b : ℕ} {counts : Context → Values → Counts} {static : Counts} → g.node i ≡ repetition counts static false b
      → Continues g i b x → Exits g i x → Conflict g i x

-- "the answer carries the least common window": of construct i
pub record LeastConflict {Context Values : Type 0} (g : Grammar Context Values) (i : ℕ) (x : Bits) : Type 0 where
  pub common : Conflict g i x
  pub least : (y : Bits) → Conflict g i y → number x ≤ number y

-- "repeated body has the empty first window" (9)
pub data EmptyBody {Context Values : Type 0} (g : Grammar Context Values) (i : ℕ) : Type 0 where
  empty_body : {b : ℕ} {counts : Context → Values → Counts} {static : Counts} {fixed : Bool}
      → g.node i ≡ repetition counts static fixed b → First g (construct b (g.node b)) [] → EmptyBody g i
