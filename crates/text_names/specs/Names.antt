-- Refusal 6: "name unknown, double, reserved, misplaced or of the wrong kind", at "the name". Each name that is at fault has a place, and the
-- least of them is the refusal's.
-- Assumes nothing.
use Rattle.std.specs.Prelude.{ℕ, ◌-◌, min, Bool, cond, not, ◌&&◌, ◌||◌, List, ltb, eqb, drop}
use Rattle.text_header.specs.Spans.{span_end}
use Rattle.text_header.specs.declared.Class.{Class}
use Rattle.text_tokens.specs.Names.{reserved_of, name_of, is_same}
use Rattle.text_names.specs.Counting.{nowhere, place_if, least_between, any_between}
use Rattle.text_store.specs.Words.{kind_of, node_size, place_of, bound_at, how_bound, own_from, own_end, condition_from, condition_end, is_binder, term_tag, stored_term_at, is_use, named_at, first_node, last_node}

-- ---- names are places: a name is what stands there

abbrev pub name_at : List ℕ → ℕ → List ℕ
name_at xs p = name_of xs p (span_end Class.Name p (drop p xs))

-- the same name stands at both places
unfoldable pub same_name : List ℕ → ℕ → ℕ → Bool
same_name xs p q = is_same (name_at xs p) (name_at xs q)

-- "Reserved: …"
unfoldable pub is_reserved : List ℕ → ℕ → Bool
is_reserved xs p = not (eqb (reserved_of (name_at xs p)) 0)

-- one of the first n rules has the name at p
abbrev pub rule_named : List ℕ → List ℕ → ℕ → ℕ → Bool
rule_named xs rs n p = any_between 0 n (λ j. same_name xs (named_at rs j) p)

-- node j binds the name at p
abbrev pub binds : List ℕ → List ℕ → ℕ → ℕ → Bool
binds xs ns p j = is_binder ns j && same_name xs (bound_at ns j) p

-- one of the nodes from a up to e does
abbrev pub bound_between : List ℕ → List ℕ → ℕ → ℕ → ℕ → Bool
bound_between xs ns a e p = any_between a e (binds xs ns p)

-- ---- what is wrong with a name; a rule's nodes go from a up to e

-- a rule's name: reserved, or the later of two
abbrev pub rule_fault : List ℕ → List ℕ → ℕ → Bool
rule_fault xs rs k = is_reserved xs (named_at rs k) || rule_named xs rs k (named_at rs k)

-- a rule's use: no rule's name, or "in its rule a variable hides a rule of the same name", before its binder too
abbrev pub use_fault : (xs ns rs : List ℕ) → (r a e p : ℕ) → Bool
use_fault xs ns rs r a e p = is_reserved xs p || (not (rule_named xs rs r p) || bound_between xs ns a e p)

-- node j holds node i, which does not come before it
abbrev pub holds : List ℕ → ℕ → ℕ → Bool
holds ns i j = ltb (i - j) (node_size ns j)

-- node j does, and is not node a as the rule's top concatenation
abbrev pub held : List ℕ → ℕ → ℕ → ℕ → Bool
held ns a i j = holds ns i j && not (eqb j a && eqb (kind_of ns a) 2)

-- some node from a on does
abbrev pub held_between : List ℕ → ℕ → ℕ → Bool
held_between ns a i = any_between a i (held ns a i)

-- "A binder is the whole body of a rule or a member of its top concatenation, outside any group"
abbrev pub is_misplaced : List ℕ → ℕ → ℕ → Bool
is_misplaced ns a i = not (eqb (how_bound ns i) 1) || held_between ns a i

-- a binder's name: the later of two in its rule, too
abbrev pub binder_fault : (xs ns : List ℕ) → (a i p : ℕ) → Bool
binder_fault xs ns a i p = is_reserved xs p || (bound_between xs ns a i p || is_misplaced ns a i)

-- a variable's use in a list of node i: "uses stand in later members"
abbrev pub variable_fault : (xs ns : List ℕ) → (a i p : ℕ) → Bool
variable_fault xs ns a i p = is_reserved xs p || not (bound_between xs ns a i p)

-- ---- where

-- node i is a rule's use or a binder: the name, where it is at fault
abbrev pub name_place : (xs ns rs : List ℕ) → (r a e i : ℕ) → ℕ
name_place xs ns rs r a e i =
    cond (eqb (kind_of ns i) 5) (place_if (use_fault xs ns rs r a e (place_of ns i)) (place_of ns i))
    (cond (is_binder ns i) (place_if (binder_fault xs ns a i (bound_at ns i)) (bound_at ns i)) nowhere)

-- term t in a list of node i: the name, where it is a variable's use at fault
abbrev pub term_place : (xs ns ts : List ℕ) → (a i t : ℕ) → ℕ
term_place xs ns ts a i t = place_if (is_use (term_tag ts t) && variable_fault xs ns a i (stored_term_at ts t)) (stored_term_at ts t)

-- the terms from f up to g of node i
abbrev pub list_place : (xs ns ts : List ℕ) → (a i f g : ℕ) → ℕ
list_place xs ns ts a i f g = least_between f g (term_place xs ns ts a i)

-- node i: its name, the terms of its condition and its own
abbrev pub node_place : (xs ns ts rs : List ℕ) → (r a e i : ℕ) → ℕ
node_place xs ns ts rs r a e i =
    min (name_place xs ns rs r a e i)
    (min (list_place xs ns ts a i (condition_from ns i) (condition_end ns i)) (list_place xs ns ts a i (own_from ns i) (own_end ns i)))

-- the nodes of a rule
abbrev pub nodes_place : (xs ns ts rs : List ℕ) → (r a e : ℕ) → ℕ
nodes_place xs ns ts rs r a e = least_between a e (node_place xs ns ts rs r a e)

-- rule k: its own name, and those in its nodes
abbrev pub rule_place : (xs ns ts rs : List ℕ) → (r k : ℕ) → ℕ
rule_place xs ns ts rs r k =
    min (place_if (rule_fault xs rs k) (named_at rs k)) (nodes_place xs ns ts rs r (first_node rs k) (last_node rs k))

-- the place of the refusal; `nowhere` where there is none
abbrev pub refusal_6 : (xs ns ts rs : List ℕ) → (r : ℕ) → ℕ
refusal_6 xs ns ts rs r = least_between 0 r (rule_place xs ns ts rs r)
