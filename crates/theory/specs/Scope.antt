-- Variables. "Variables are local to a rule. A binder is the whole body of a rule or a member of its top concatenation, outside any group;
-- uses stand in later members." The machine keeps values for each level of opening instead, in the base one for each binder ("Values stay
-- as last bound"); theorem Local says that this makes no difference, there with rules that do not reach themselves.
-- Assumes nothing.
use Rattle.std.specs.Prelude.{ℕ, ◌≡◌, refl, Bool, true, false, List, [], ◌∷◌, ◌++◌}
use Rattle.std.proofs.Math.Option.{Option, some}
use Rattle.basis.specs.Bits.{Bits}
use Rattle.basis.specs.Counts.{Counts}
use Rattle.theory.specs.Grammar.{Node, alternative, concatenation, repetition, switch, use_of, field, eod, Grammar, ◌∈◌}

-- By construct number: the variables that may be used there, and those that it binds (a binder its own, any other construct none). Of a
-- use-of node: whether it opens a rule, whose variables are its own (so in the base; the functions of Req 03 only change the context),
-- and the variables that entering the rule binds (its parameters, Req 01; none in the base).
pub record Scope : Type 0 where
  pub sees : ℕ → List ℕ
  pub binds : ℕ → List ℕ
  pub opens_rule : ℕ → Bool
  pub enters_with : ℕ → List ℕ

-- How values are kept. Of each variable there is a cell for each level of opening (one in the base; how often its rule is open, Req 07), and
-- beside the cells stands what is reported (nothing in the base; the value last bound in any opening, Req 07).
pub record Store (Context Values Cell A R : Type 0) : Type 0 where
  -- the cell of a variable that is used or bound in this context
  pub cell : Context → ℕ → Cell
  pub read : Values → Cell → A
  pub reported : Values → R
  -- the first values as they were, after the second: what is reported stays
  pub put_back : Values → Values → Values
  pub cells_back : (v v' : Values) (k : Cell) → read (put_back v v') k ≡ read v k
  pub report_stays : (v v' : Values) → reported (put_back v v') ≡ reported v'

-- one level; `get` is a variable's value
abbrev pub one_level : {Context Values A : Type 0} → (Values → ℕ → A) → Store Context Values ℕ A (Unit {0})
one_level get =
    record { cell = λ c x. x; read = get; reported = λ v. tt; put_back = λ v v'. v; cells_back = λ v v' k. refl; report_stays = λ v v'. refl }

-- two sets of values are the same at these variables, in this context
abbrev pub Agree : {Context Values Cell A R : Type 0} → Store Context Values Cell A R → Context → List ℕ → Values → Values → Type 0
Agree store c xs v v' = (x : ℕ) → x ∈ xs → store.read v (store.cell c x) ≡ store.read v' (store.cell c x)

-- each member sees what the concatenation sees and what the members before it bind
abbrev pub Chain : Scope → List ℕ → List ℕ → Type 0
Chain scope xs [] = Unit {0}
Chain scope xs (m ∷ is) = (scope.sees m ≡ xs) × Chain scope (xs ++ scope.binds m) is

module _ {Context Values Cell A R : Type 0} (store : Store Context Values Cell A R) (scope : Scope) where
  -- a use that opens a rule, and one that is not seen by the variables
  abbrev pub UseScoped : Bool → ℕ → (Context → Option Context) → (Context → Values → Values) → ℕ → Type 0
  UseScoped true i enters opens b =
      (scope.binds i ≡ [])
      × ((c c' : Context) (v : Values) (k : Cell) → enters c ≡ some c' → ((x : ℕ) → x ∈ scope.enters_with i → k ≡ store.cell c' x → ⊥) → store.read (opens c v) k ≡ store.read v k)
  UseScoped false i enters opens b =
      (scope.binds i ≡ scope.binds b) × (scope.sees b ≡ scope.sees i) × ((c : Context) (v : Values) → opens c v ≡ v)
      × ((c c' : Context) (x : ℕ) → enters c ≡ some c' → store.cell c' x ≡ store.cell c x)

  -- what a node may read and bind, by its kind
  abbrev pub Scoped : ℕ → Node Context Values → Type 0
  Scoped i (alternative is) = (scope.binds i ≡ []) × ((b : ℕ) → b ∈ is → scope.sees b ≡ scope.sees i)
  Scoped i (concatenation is) = (scope.binds i ≡ []) × Chain scope (scope.sees i) is
  Scoped i (repetition counts static fixed b) =
      (scope.binds i ≡ []) × (scope.sees b ≡ scope.sees i) × ((c : Context) (v v' : Values) → Agree store c (scope.sees i) v v' → counts c v ≡ counts c v')
  Scoped i (switch chosen optional is) =
      (scope.binds i ≡ []) × ((c : Context) (v : Values) (b : ℕ) → chosen c v ≡ some b → scope.sees b ≡ scope.sees i)
      × ((c : Context) (v v' : Values) → Agree store c (scope.sees i) v v' → chosen c v ≡ chosen c v')
  Scoped i (use_of enters opens closes b) = UseScoped (scope.opens_rule i) i enters opens b
  Scoped i (field w admits static binds) =
      ((c : Context) (v v' : Values) (bits : Bits) → Agree store c (scope.sees i) v v' → admits c v bits ≡ admits c v' bits)
      × ((c : Context) (v v' : Values) (bits : Bits) → Agree store c (scope.sees i) v v' → Agree store c (scope.sees i ++ scope.binds i) (binds c v bits) (binds c v' bits))
      × ((c : Context) (v : Values) (bits : Bits) (k : Cell) → ((x : ℕ) → x ∈ scope.binds i → k ≡ store.cell c x → ⊥) → store.read (binds c v bits) k ≡ store.read v k)
      × ((c : Context) (v v' : Values) (bits : Bits) → store.reported v ≡ store.reported v' → store.reported (binds c v bits) ≡ store.reported (binds c v' bits))
  Scoped i eod = scope.binds i ≡ []

  -- in this context a construct, or something below it through the rules that it uses, binds a variable of this cell
  pub data MayBind (g : Grammar Context Values) : Context → ℕ → Cell → Type 0 where
    itself : {c : Context} {i x : ℕ} {k : Cell} → x ∈ scope.binds i → k ≡ store.cell c x → MayBind g c i k
    entering : {c c' : Context} {i b x : ℕ} {k : Cell} {enters : Context → Option Context} {opens : Context → Values → Values} {closes : Values → Values → Values}
        → g.node i ≡ use_of enters opens closes b → enters c ≡ some c' → x ∈ scope.enters_with i → k ≡ store.cell c' x → MayBind g c i k
    in_branch : {c : Context} {i b : ℕ} {k : Cell} {is : List ℕ} → g.node i ≡ alternative is → b ∈ is → MayBind g c b k → MayBind g c i k
    in_member : {c : Context} {i m : ℕ} {k : Cell} {is : List ℕ} → g.node i ≡ concatenation is → m ∈ is → MayBind g c m k → MayBind g c i k
    in_body : {c : Context} {i b : ℕ} {k : Cell} {counts : Context → Values → Counts} {static : Counts} {fixed : Bool}
        → g.node i ≡ repetition counts static fixed b → MayBind g c b k → MayBind g c i k
    in_case : {c : Context} {i b : ℕ} {k : Cell} {chosen : Context → Values → Option ℕ} {optional : Bool} {is : List ℕ} → g.node i ≡ switch chosen optional is → b ∈ is → MayBind g c b k → MayBind g c i k
    in_rule : {c c' : Context} {i b : ℕ} {k : Cell} {enters : Context → Option Context} {opens : Context → Values → Values} {closes : Values → Values → Values}
        → g.node i ≡ use_of enters opens closes b → enters c ≡ some c' → MayBind g c' b k → MayBind g c i k

-- The same grammar with variables local to each opening of a rule: a use i of a rule begins with the values `fresh i c v` (all 0 in the
-- base, arguments bound in Req 01), and at its end the user's values are as they were.
module _ {Context Values Cell A R : Type 0} (store : Store Context Values Cell A R) (scope : Scope) (fresh : ℕ → Context → Values → Values) where
  abbrev pub local_use : Bool → ℕ → (Context → Option Context) → (Context → Values → Values) → (Values → Values → Values) → ℕ → Node Context Values
  local_use true i enters opens closes b = use_of enters (fresh i) store.put_back b
  local_use false i enters opens closes b = use_of enters opens closes b

  -- nothing but the uses of rules changes
  unfoldable pub local_node : ℕ → Node Context Values → Node Context Values
  local_node i (alternative is) = alternative is
  local_node i (concatenation is) = concatenation is
  local_node i (repetition counts static fixed b) = repetition counts static fixed b
  local_node i (switch chosen optional is) = switch chosen optional is
  local_node i (use_of enters opens closes b) = local_use (scope.opens_rule i) i enters opens closes b
  local_node i (field w admits static binds) = field w admits static binds
  local_node i eod = eod

  -- the grammar of such nodes
  abbrev pub localised : Grammar Context Values → Grammar Context Values
  localised g = record { node = λ i. local_node i (g.node i); start = g.start; context = g.context; values = g.values }

-- What document 01's rules of names give of a grammar whose values are threaded through.
module _ {Context Values Cell A R : Type 0} (store : Store Context Values Cell A R) (scope : Scope) (fresh : ℕ → Context → Values → Values) where
  pub record Lexical (g : Grammar Context Values) : Type 0 where
    -- refusal 6: unknown and misplaced names
    pub scoped : (i : ℕ) → Scoped store scope i (g.node i)
    -- refusal 6: double names; refusal 7: no rule that is used here comes back to this one, or (Req 07) only to another cell
    pub not_bound_again : (c : Context) (i x : ℕ) → x ∈ scope.sees i → MayBind store scope g c i (store.cell c x) → ⊥
    -- "Values stay as last bound"
    pub values_stay : {i b : ℕ} {enters : Context → Option Context} {opens : Context → Values → Values} {closes : Values → Values → Values}
        → g.node i ≡ use_of enters opens closes b → (v v' : Values) → closes v v' ≡ v'
    -- what a rule's body sees where it begins is bound by its opening
    pub entered : {i b : ℕ} {enters : Context → Option Context} {opens : Context → Values → Values} {closes : Values → Values → Values}
        → g.node i ≡ use_of enters opens closes b → scope.opens_rule i ≡ true → (c c' : Context) (v v' : Values) → enters c ≡ some c'
        → Agree store c (scope.sees i) v v' → Agree store c' (scope.sees b) (opens c v) (fresh i c v')
    -- and so is what is reported of it
    pub entered_reported : {i b : ℕ} {enters : Context → Option Context} {opens : Context → Values → Values} {closes : Values → Values → Values}
        → g.node i ≡ use_of enters opens closes b → scope.opens_rule i ≡ true → (c : Context) (v v' : Values)
        → Agree store c (scope.sees i) v v' → store.reported v ≡ store.reported v' → store.reported (opens c v) ≡ store.reported (fresh i c v')
