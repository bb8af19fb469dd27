-- A chain that is read from its last entry to its first: what is known of the entries that were read. Only the crate's own helpers promise this.
-- Assumes nothing.
use Rattle.std.specs.Prelude.{ℕ, zero, suc, ◌+◌, ◌-◌, ◌≤◌, ◌<◌, ◌≡◌, Bool, true, cond, List, [], ◌∷◌, ◌++◌, eqb, ltb, length, get_or, take, replicate}
use Rattle.basis.specs.Limits.{max_constructs}
use Rattle.basis.specs.Bits.{Bits}
use Rattle.basis.specs.Counts.{Counts, from, within, Allows}
use Rattle.basis.specs.Lookahead.{lookahead, number}
use Rattle.table_layout.specs.Held.{held, Context, Values, passes_static}
use Rattle.table_layout.specs.Constructs.{construct_at}
use Rattle.table_layout.specs.declared.Construct.{Construct}
use Rattle.theory.specs.Grammar.{Node, field}
use Rattle.theory.specs.Derivation.{members}
use Rattle.theory.specs.Lookahead.{First, Follow}
use Rattle.report_chain_meaning.specs.Chains.{Step, Rest, nothing, after, Spells, listed}
use Rattle.report_chain_steps.specs.declared.Place.{Place}

-- more than any depth of the stack: the answer where what was read is no chain
abbrev pub no_depth : ℕ
no_depth = 1024

-- the least of these counts
abbrev pub least_count : Counts → ℕ
least_count Counts.none = 0
least_count (from low) = low
least_count (within low more) = low

-- the counts of a repetition
abbrev pub counts_at : List ℕ → Construct → Counts
counts_at ws Construct.Missing = Counts.none
counts_at ws (Construct.Alternative size) = Counts.none
counts_at ws (Construct.Concatenation size) = Counts.none
counts_at ws (Construct.Repetition size passes) = passes_static ws passes
counts_at ws (Construct.Switch size) = Counts.none
counts_at ws (Construct.Use rule) = Counts.none
counts_at ws (Construct.Literal length) = Counts.none
counts_at ws (Construct.Range low high) = Counts.none
counts_at ws (Construct.Uint signed width start end binder) = Counts.none
counts_at ws Construct.Eod = Counts.none

-- how many passes n stand for: 8 for the least number from 8 on
abbrev pub passes_of : Counts → ℕ → ℕ
passes_of counts n = cond (eqb n 8) (8 + (least_count counts - 8)) n

-- these passes are allowed
abbrev pub Fits : Counts → ℕ → Type 0
Fits counts n = (n ≤ 8) × Allows counts (passes_of counts n)

-- the least passes of repetition i past the eighth
unfoldable pub past_eight : List ℕ → ℕ → List ℕ
past_eight ws i = replicate (least_count (counts_at ws (construct_at ws i)) - 8) (i + 1)

-- what a row of the stack stands for: a construct, or from 512 on the passes of a repetition past the eighth
unfoldable pub row : List ℕ → ℕ → List ℕ
unfolding past_eight
row ws v = cond (ltb v max_constructs) (v ∷ []) (past_eight ws (v - 512))

-- the constructs still to be read, those of row `depth` first; row 0 is none of them
unfoldable pub stack : List ℕ → List ℕ → ℕ → List ℕ
unfolding row
stack ws items zero = []
stack ws items (suc d) = row ws (get_or items (suc d) 0) ++ stack ws items d

-- what comes behind them, by its number
abbrev pub rest_of : ℕ → Rest
rest_of zero = nothing
rest_of (suc i) = after i

-- a chain of these constructs and of what comes behind them, whose list has these steps more than that of another
pub record Longer (ws is : List ℕ) (r : Rest) (x : Bits) (more l : List Step) : Type 0 where
  pub chain : List Step
  pub spells : Spells (held ws) is r x chain
  pub longer : (n : ℕ) → listed (suc n) chain ≡ more ++ listed (suc n) l

-- construct i in place of what it is made of
abbrev pub Made : List ℕ → List ℕ → List ℕ → ℕ → List Step → Type 0
Made ws is js i more = (r : Rest) (x : Bits) (l : List Step) → Spells (held ws) is r x l → Longer ws (i ∷ js) r x more l

-- what follows one construct in place of what comes after another
abbrev pub Moved : List ℕ → List ℕ → Rest → Rest → List Step → Type 0
Moved ws is r s more = (x : Bits) (l : List Step) → Spells (held ws) is r x l → Longer ws [] s x more l

-- the same, where an answer says so
abbrev pub MadeAt : List ℕ → List ℕ → ℕ → ℕ → ℕ → List Step → Type 0
MadeAt ws items depth r i more = r < no_depth → Made ws (stack ws items depth) (stack ws items r) i more

-- after construct p comes what comes after construct r - 1, where r is not 0
abbrev pub MovedTo : List ℕ → List ℕ → ℕ → ℕ → ℕ → List Step → Type 0
MovedTo ws items depth p r more = 0 < r → Moved ws (stack ws items depth) (after p) (after (r - 1)) more

-- the entries that were read list the steps `shown`: a chain from here on, of which so many bits are wanted, and the number of those
pub record Tail (ws items : List ℕ) (at : Place) (shown : List Step) : Type 0 where
  pub bits : Bits
  pub chain : List Step
  pub spells : Spells (held ws) (stack ws items at.depth) (rest_of at.rest) bits chain
  pub lists : listed at.left chain ≡ shown
  pub some : 0 < at.left
  pub window : at.seen ≡ number (take at.left bits)

-- one entry more
abbrev pub Read : List ℕ → List ℕ → List ℕ → Place → Place → List Step → Type 0
Read ws items now-items at r more = r.depth < no_depth → (shown : List Step) → Tail ws items at shown → Tail ws now-items r (more ++ shown)

-- a node that is a field
pub data IsField : Node Context Values → Type 0 where
  is_field : (w : Bits → ℕ) (admits : Context → Values → Bits → Bool) (static : Bits → Bool) (binds : Context → Values → Bits → Values) → IsField (field w admits static binds)

-- a FIRST string of these constructs, one after the other
abbrev pub FirstOf : List ℕ → List ℕ → Type 0
FirstOf ws is = (x : Bits) × First (held ws) (members is) x

-- a FOLLOW string
abbrev pub FollowOf : List ℕ → ℕ → Type 0
FollowOf ws i = (x : Bits) × Follow (held ws) i x

-- construct i is a field with a bit pattern that begins so
pub data BeginsWith (ws : List ℕ) (i : ℕ) (s : Bits) : Type 0 where
  begins_with : {w : Bits → ℕ} {admits : Context → Values → Bits → Bool} {static : Bits → Bool} {binds : Context → Values → Bits → Values} (bits : Bits)
      → (held ws).node i ≡ field w admits static binds → length bits ≡ w bits → static bits ≡ true → take (length s) bits ≡ s → BeginsWith ws i s

-- construct i is a field with a bit pattern whose leading 8 bits are these
pub data Pattern (ws : List ℕ) (i : ℕ) (s : Bits) : Type 0 where
  pattern : {w : Bits → ℕ} {admits : Context → Values → Bits → Bool} {static : Bits → Bool} {binds : Context → Values → Bits → Values} (bits : Bits)
      → (held ws).node i ≡ field w admits static binds → length bits ≡ w bits → static bits ≡ true → s ≡ lookahead bits → Pattern ws i s
