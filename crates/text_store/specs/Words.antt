-- The words of what is read (`Store`), by name. Nobody else says at which number a word is.
-- Assumes nothing.
use Rattle.std.specs.Prelude.{ℕ, ◌+◌, ◌*◌, Bool, not, ◌&&◌, ◌||◌, List, eqb, get_or}
use Rattle.basis.specs.Limits.{max_rules, max_constructs, max_terms}

-- where the words of node i, of term t, of rule r begin
abbrev pub node_start : ℕ → ℕ
node_start i = 10 * i

abbrev pub term_start : ℕ → ℕ
term_start t = 4 * t

abbrev pub rule_start : ℕ → ℕ
rule_start r = 5 * r

-- how many words there are: a node for each construct, the terms, and one rule more than there may be, so that its place is known
abbrev pub nodes_room : ℕ
nodes_room = node_start max_constructs

abbrev pub terms_room : ℕ
terms_room = term_start max_terms

abbrev pub rules_kept : ℕ
rules_kept = max_rules + 1

abbrev pub rules_room : ℕ
rules_room = rule_start rules_kept

-- word k of a node, of a term, of a rule
abbrev pub node_word : List ℕ → ℕ → ℕ → ℕ
node_word ns i k = get_or ns (node_start i + k) 0

abbrev pub term_word : List ℕ → ℕ → ℕ → ℕ
term_word ts t k = get_or ts (term_start t + k) 0

abbrev pub rule_word : List ℕ → ℕ → ℕ → ℕ
rule_word rs r k = get_or rs (rule_start r + k) 0

-- ---- a node

-- what it is, how many nodes it has with itself, and where it begins
abbrev pub kind_of : List ℕ → ℕ → ℕ
kind_of ns i = node_word ns i 0

abbrev pub node_size : List ℕ → ℕ → ℕ
node_size ns i = node_word ns i 1

abbrev pub place_of : List ℕ → ℕ → ℕ
place_of ns i = node_word ns i 2

-- a second place, where it has one
abbrev pub second_place : List ℕ → ℕ → ℕ
second_place ns i = node_word ns i 4

-- of a repetition: which mark (1 `?`, 2 `*`, 3 `+`, 4 braces), and where it stands
abbrev pub node_mark : List ℕ → ℕ → ℕ
node_mark ns i = node_word ns i 3

abbrev pub mark_place : List ℕ → ℕ → ℕ
mark_place ns i = second_place ns i

-- of a range of characters: where its last one stands
abbrev pub last_place : List ℕ → ℕ → ℕ
last_place ns i = node_word ns i 3

-- of a uint: where its width stands, where the name that it binds, and how it binds: 0 (not), 1 (outside any group) or 2
abbrev pub width_place : List ℕ → ℕ → ℕ
width_place ns i = node_word ns i 3

abbrev pub bound_at : List ℕ → ℕ → ℕ
bound_at ns i = second_place ns i

abbrev pub how_bound : List ℕ → ℕ → ℕ
how_bound ns i = node_word ns i 7

-- the terms of its own (a uint's set, counts in braces), from and up to
abbrev pub own_from : List ℕ → ℕ → ℕ
own_from ns i = node_word ns i 5

abbrev pub own_end : List ℕ → ℕ → ℕ
own_end ns i = node_word ns i 6

-- the terms of the condition of a case whose body it is, from and up to
abbrev pub condition_from : List ℕ → ℕ → ℕ
condition_from ns i = node_word ns i 8

abbrev pub condition_end : List ℕ → ℕ → ℕ
condition_end ns i = node_word ns i 9

-- it is a uint that binds
abbrev pub is_binder : List ℕ → ℕ → Bool
is_binder ns i = eqb (kind_of ns i) 8 && not (eqb (how_bound ns i) 0)

-- ---- a term: its tag, a number's value, where it stands, and where the calculation that it is in begins

abbrev pub term_tag : List ℕ → ℕ → ℕ
term_tag ts t = term_word ts t 0

abbrev pub term_value : List ℕ → ℕ → ℕ
term_value ts t = term_word ts t 1

abbrev pub stored_term_at : List ℕ → ℕ → ℕ
stored_term_at ts t = term_word ts t 2

abbrev pub term_origin : List ℕ → ℕ → ℕ
term_origin ts t = term_word ts t 3

-- the tags of a variable's use
abbrev pub is_use : ℕ → Bool
is_use tag = eqb tag 2 || eqb tag 34

-- ---- a rule: where its name stands, its first node, and how many nodes, terms and binders there are at its end

abbrev pub named_at : List ℕ → ℕ → ℕ
named_at rs k = rule_word rs k 0

abbrev pub first_node : List ℕ → ℕ → ℕ
first_node rs k = rule_word rs k 1

abbrev pub last_node : List ℕ → ℕ → ℕ
last_node rs k = rule_word rs k 2

abbrev pub terms_at_end : List ℕ → ℕ → ℕ
terms_at_end rs k = rule_word rs k 3

abbrev pub binders_at_end : List ℕ → ℕ → ℕ
binders_at_end rs k = rule_word rs k 4
