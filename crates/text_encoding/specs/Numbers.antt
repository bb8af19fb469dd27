-- What names and lists of terms are in a table: numbers of rules, of variables, of terms.
-- Assumes nothing.
use Rattle.std.specs.Prelude.{ℕ, zero, suc, ◌+◌, ◌-◌, min, Bool, true, false, cond, List, leb, eqb, get_or}
use Rattle.text_tokens.specs.Numbers.{number_value, capped}
use Rattle.text_store.specs.Words.{place_of, width_place, own_from, own_end, condition_from, condition_end, is_binder, named_at, first_node}
use Rattle.text_names.specs.Names.{same_name, binds}
use Rattle.text_encoding.specs.Lists.{sum, first_of}

-- ---- rules

-- the first of r rules with the name at p
abbrev pub rule_of : (xs rs : List ℕ) → (r p : ℕ) → ℕ
rule_of xs rs r p = first_of r 0 (λ j. same_name xs (named_at rs j) p)

-- the first node of the rule that node i is in: of the last of r rules that begins at i or before
unfoldable pub first_at : List ℕ → ℕ → ℕ → ℕ
first_at rs zero i = 0
first_at rs (suc k) i = elim (leb (first_node rs k) i) [ true ↦ first_node rs k | false ↦ first_at rs k i ]

-- ---- variables, in text order of their binders

-- a node binds one variable or none
abbrev pub binds_one : List ℕ → ℕ → ℕ
binds_one ns j = cond (is_binder ns j) 1 0

-- how many binders stand before node i
abbrev pub binders_before : List ℕ → ℕ → ℕ
binders_before ns i = sum i 0 (binds_one ns)

-- the first node from a up to i that binds the name at p
abbrev pub binder_of : (xs ns : List ℕ) → (a i p : ℕ) → ℕ
binder_of xs ns a i p = first_of (i - a) a (binds xs ns p)

-- the variable that the name at p is in node i of a rule whose first node is a
abbrev pub variable_of : (xs ns : List ℕ) → (a i p : ℕ) → ℕ
variable_of xs ns a i p = binders_before ns (binder_of xs ns a i p)

-- a uint's width; all that is more than 64 is as wrong as 65 (refusal 8)
abbrev pub width_of : List ℕ → List ℕ → ℕ → ℕ
width_of xs ns i = min 65 (capped (number_value xs (width_place ns i)))

-- it is a sint and no uint: its word begins with s
abbrev pub is_signed : List ℕ → List ℕ → ℕ → Bool
is_signed xs ns i = eqb (get_or xs (place_of ns i) 0) 115

-- ---- terms: "in the order of the constructs: for each construct its condition's terms, then its own"

-- how many terms the condition of a case has
abbrev pub condition_length : List ℕ → ℕ → ℕ
condition_length ns i = condition_end ns i - condition_from ns i

-- how many a node has of its own: a uint's set, or the counts in braces
abbrev pub own_length : List ℕ → ℕ → ℕ
own_length ns i = own_end ns i - own_from ns i

-- and both together
abbrev pub lists_length : List ℕ → ℕ → ℕ
lists_length ns i = condition_length ns i + own_length ns i

-- the table's number of the first term of construct i
abbrev pub condition_start : List ℕ → ℕ → ℕ
condition_start ns i = sum i 0 (lists_length ns)

-- and of the first of its own list
abbrev pub own_start : List ℕ → ℕ → ℕ
own_start ns i = condition_start ns i + condition_length ns i
