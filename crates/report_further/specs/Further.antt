-- The names at fault after the first (refusal 6 has the least place): the least place of one from a place on. Places count from the first byte of
-- the rules.
-- Assumes nothing.
use Rattle.std.specs.Prelude.{ℕ, min, List, leb}
use Rattle.text_names.specs.Counting.{place_if, least_between}
use Rattle.text_names.specs.Names.{rule_fault, name_place, term_place}
use Rattle.text_store.specs.Words.{own_from, own_end, condition_from, condition_end, named_at, first_node, last_node}

-- a place that does not come before s
abbrev pub not_before : (s p : ℕ) → ℕ
not_before s p = place_if (leb s p) p

-- term t in a list of node i, in a rule whose nodes begin at a
abbrev pub term_from : (s : ℕ) → (xs ns ts : List ℕ) → (a i t : ℕ) → ℕ
term_from s xs ns ts a i t = not_before s (term_place xs ns ts a i t)

-- the terms from f up to g of node i
abbrev pub list_from : (s : ℕ) → (xs ns ts : List ℕ) → (a i f g : ℕ) → ℕ
list_from s xs ns ts a i f g = least_between f g (term_from s xs ns ts a i)

-- node i: its name, the terms of its condition and its own
abbrev pub node_from : (s : ℕ) → (xs ns ts rs : List ℕ) → (r a e i : ℕ) → ℕ
node_from s xs ns ts rs r a e i =
    min (not_before s (name_place xs ns rs r a e i))
    (min (list_from s xs ns ts a i (condition_from ns i) (condition_end ns i)) (list_from s xs ns ts a i (own_from ns i) (own_end ns i)))

-- the nodes of a rule
abbrev pub nodes_from : (s : ℕ) → (xs ns ts rs : List ℕ) → (r a e : ℕ) → ℕ
nodes_from s xs ns ts rs r a e = least_between a e (node_from s xs ns ts rs r a e)

-- rule k: its own name, and those in its nodes
abbrev pub rule_from : (s : ℕ) → (xs ns ts rs : List ℕ) → (r k : ℕ) → ℕ
rule_from s xs ns ts rs r k =
    min (not_before s (place_if (rule_fault xs rs k) (named_at rs k))) (nodes_from s xs ns ts rs r (first_node rs k) (last_node rs k))

-- `nowhere` where there is none; from 0 on it is the place of refusal 6
abbrev pub next_fault : (s : ℕ) → (xs ns ts rs : List ℕ) → (r : ℕ) → ℕ
next_fault s xs ns ts rs r = least_between 0 r (rule_from s xs ns ts rs r)
