-- Variables of the grammar that a table's words hold: `localised store (scope_of ws) fresh (held ws)` (theory, `Scope`) is that grammar with document
-- 01's local variables. Of a scope it takes `opens_rule` alone; the rest is what the law `lexical` says of well laid out words.
-- Assumes nothing.
use Rattle.std.specs.Prelude.{ℕ, zero, suc, true, cond, ◌&&◌, List, [], ◌∷◌, ◌++◌, leb, ltb, ℤ, pos, length, get_or, replicate}
use Rattle.theory.specs.Scope.{Store, one_level, Scope}
use Rattle.table_layout.specs.Places.{rule_count}
use Rattle.table_layout.specs.Constructs.{construct_at}
use Rattle.table_layout.specs.Held.{Context, Values}
use Rattle.table_wellformed.specs.Rules.{body, rule_end, binder_of}

-- "A run holds a position, a to-do list, variable values": the value of a name. Names are as a construct's words have them, 1 + the variable.
-- Name 0, which nothing binds and everything sees, is how many values there are: past their end a variable's use is malformed, and not 0.
abbrev pub value_of : Values → ℕ → ℤ
value_of v zero = pos (length v)
value_of v (suc x) = get_or v x (pos 0)

-- "Values stay as last bound": one value for each name, at whatever level
abbrev pub store : Store Context Values ℕ ℤ (Unit {0})
store = one_level value_of

-- "Variables are local to a rule": it opens with its variables all 0, whatever they are at its use, as a run opens with "the rest 0".
abbrev pub fresh : ℕ → Context → Values → Values
fresh i c v = replicate (length v) (pos 0)

-- what a construct of this binder word binds
abbrev pub bound_by : ℕ → List ℕ
bound_by zero = []
bound_by (suc x) = suc x ∷ []

-- what construct i binds
abbrev pub bound_at : List ℕ → ℕ → List ℕ
bound_at ws i = bound_by (binder_of (construct_at ws i))

-- what the constructs from `start` up to i bind
unfoldable pub bound_before : List ℕ → ℕ → ℕ → List ℕ
bound_before ws start zero = []
bound_before ws start (suc i) = cond (leb start i) (bound_before ws start i ++ bound_at ws i) []

-- the body of the rule, of the first n, that construct i stands in; i itself where it stands in none
unfoldable pub rule_start : ℕ → List ℕ → ℕ → ℕ
rule_start zero ws i = i
rule_start (suc r) ws i = cond (leb (body ws r) i && ltb i (rule_end ws r 0)) (body ws r) (rule_start r ws i)

-- "uses stand in later members": a construct sees what the constructs before it in its rule bind
abbrev pub seen_at : List ℕ → ℕ → List ℕ
seen_at ws i = 0 ∷ bound_before ws (rule_start (rule_count ws) ws i) i

-- "Variables are local to a rule. A binder is the whole body of a rule or a member of its top concatenation, outside any group; uses stand in
-- later members." Every use opens its rule, and none binds parameters.
abbrev pub scope_of : List ℕ → Scope
scope_of ws = record { sees = seen_at ws; binds = bound_at ws; opens_rule = λ i. true; enters_with = λ i. [] }
