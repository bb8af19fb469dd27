-- What is wrong with a name that is not reserved, and in which rule a place lies. Places count from the first byte of the rules, and `nowhere`
-- is no place.
-- Assumes nothing.
use Rattle.std.specs.Prelude.{ℕ, ◌+◌, ◌-◌, min, Bool, cond, ◌&&◌, ◌||◌, List, ltb, eqb}
use Rattle.text_names.specs.Counting.{nowhere, place_if, least_between}
use Rattle.text_store.specs.Words.{kind_of, place_of, bound_at, is_binder, named_at, first_node, last_node, rules_kept}
use Rattle.text_names.specs.Names.{same_name, binds}
use Rattle.report_faults.specs.declared.Fault.{Fault}

-- a place in the whole text; no place stays none
unfoldable pub from_base : (base p : ℕ) → ℕ
from_base base p = min (base + p) nowhere

-- ---- the rule that a place lies in: the last whose name does not stand after it

abbrev pub after_if : List ℕ → (p k : ℕ) → ℕ
after_if rs p k = place_if (ltb p (named_at rs k)) k

unfoldable pub rule_after : List ℕ → (r p : ℕ) → ℕ
rule_after rs r p = least_between 0 r (after_if rs p)

-- of rules past the limit only the first is kept
unfoldable pub rule_number : List ℕ → (r p : ℕ) → ℕ
rule_number rs r p = min (rule_after rs (min r rules_kept) p) (min r rules_kept) - 1

-- ---- who has the name at a place

-- the first of r rules
abbrev pub rule_if : (xs rs : List ℕ) → (p j : ℕ) → ℕ
rule_if xs rs p j = place_if (same_name xs (named_at rs j) p) (named_at rs j)

unfoldable pub first_rule : (xs rs : List ℕ) → (r p : ℕ) → ℕ
first_rule xs rs r p = least_between 0 r (rule_if xs rs p)

-- the first binder among the nodes from a up to e
abbrev pub binder_if : (xs ns : List ℕ) → (p j : ℕ) → ℕ
binder_if xs ns p j = place_if (binds xs ns p j) (bound_at ns j)

unfoldable pub first_binder : (xs ns : List ℕ) → (a e p : ℕ) → ℕ
first_binder xs ns a e p = least_between a e (binder_if xs ns p)

-- ---- what the name at a place is: of a node that uses a rule or binds a variable, or else of a variable's use

unfoldable pub names_at : List ℕ → (p j : ℕ) → Bool
names_at ns p j = (eqb (kind_of ns j) 5 && eqb (place_of ns j) p) || (is_binder ns j && eqb (bound_at ns j) p)

abbrev pub node_if : List ℕ → (p j : ℕ) → ℕ
node_if ns p j = place_if (names_at ns p j) j

unfoldable pub node_at : List ℕ → (a e p : ℕ) → ℕ
node_at ns a e p = least_between a e (node_if ns p)

-- ---- what is wrong

-- a rule's name is expected; a variable of that name is bound at v
unfoldable pub use_fault : (base v : ℕ) → Fault
use_fault base v = cond (ltb v nowhere) (Fault.Variable (from_base base v)) Fault.NoRule

-- a binder; the name is bound before it at v
unfoldable pub binder_fault : (base v : ℕ) → Fault
binder_fault base v = cond (ltb v nowhere) (Fault.Twice (from_base base v)) Fault.Misplaced

-- a variable is expected; it is bound in its rule at v, a rule has its name at q, it is bound anywhere at w
unfoldable pub variable_fault : (base v q w : ℕ) → Fault
variable_fault base v q w =
    cond (ltb v nowhere) (Fault.Later (from_base base v))
    (cond (ltb q nowhere) (Fault.Rule (from_base base q)) (cond (ltb w nowhere) (Fault.Elsewhere (from_base base w)) Fault.NoVariable))

-- the name of node i, in a rule whose nodes go from a up to e
unfoldable pub node_fault : (xs ns : List ℕ) → (base a e i p : ℕ) → Fault
node_fault xs ns base a e i p =
    cond (eqb (kind_of ns i) 5) (use_fault base (first_binder xs ns a e p)) (binder_fault base (first_binder xs ns a i p))

-- in rule k, of r rules and n nodes
unfoldable pub fault_in : (xs ns rs : List ℕ) → (base n r k p : ℕ) → Fault
fault_in xs ns rs base n r k p =
    cond (eqb (named_at rs k) p) (Fault.Double (from_base base (first_rule xs rs k p)))
    (cond (ltb (node_at ns (first_node rs k) (last_node rs k) p) nowhere)
    (node_fault xs ns base (first_node rs k) (last_node rs k) (node_at ns (first_node rs k) (last_node rs k) p) p)
    (variable_fault base (first_binder xs ns (first_node rs k) (last_node rs k) p) (first_rule xs rs r p) (first_binder xs ns 0 n p)))

abbrev pub name_fault : (xs ns rs : List ℕ) → (base n r p : ℕ) → Fault
name_fault xs ns rs base n r p = fault_in xs ns rs base n r (rule_number rs r p) p
