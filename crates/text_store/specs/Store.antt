-- What is read, as words: nodes in preorder, terms in postfix order, rules. What is past a limit is counted once and not kept, because
-- refusal 5 follows: "64 rules, 256 constructs, 64 variables, 1,024 numbers, variable uses and signs".
-- Assumes nothing.
use Rattle.std.specs.Prelude.{ℕ, zero, suc, ◌+◌, ◌*◌, ◌-◌, cond, List, [], ◌∷◌, ◌++◌, leb, ltb, get_or, set, take, drop, replicate}
use Rattle.text_store.specs.Words.{nodes_room, terms_room, rules_kept, rules_room}
use Rattle.basis.specs.Limits.{max_rules, max_constructs, max_variables, max_terms}

-- the words of nodes, terms and rules, and how many nodes, terms, binders and rules there are
pub data State : Type 0 where
  state : (ns ts rs : List ℕ) (n t b r : ℕ) → State

-- nothing is read yet
abbrev pub blank : State
blank = state (replicate nodes_room 0) (replicate terms_room 0) (replicate rules_room 0) 0 0 0 0

-- the parts of what is read, in this order
abbrev pub node_words : State → List ℕ
node_words (state ns ts rs n t b r) = ns

abbrev pub term_words : State → List ℕ
term_words (state ns ts rs n t b r) = ts

abbrev pub rule_words : State → List ℕ
rule_words (state ns ts rs n t b r) = rs

abbrev pub nodes_of : State → ℕ
nodes_of (state ns ts rs n t b r) = n

abbrev pub terms_of : State → ℕ
terms_of (state ns ts rs n t b r) = t

abbrev pub binders_of : State → ℕ
binders_of (state ns ts rs n t b r) = b

abbrev pub rules_of : State → ℕ
rules_of (state ns ts rs n t b r) = r

-- one more, up to one past a limit
abbrev pub counted : ℕ → ℕ → ℕ
counted limit n = cond (leb n limit) (n + 1) n

-- A term: tag, value of a number, place, first byte of the calculation it is in. Tags as in crate `term_words`.
unfoldable pub put_term : List ℕ → ℕ → ℕ → ℕ → ℕ → ℕ → List ℕ
put_term ts t tag value place origin =
    cond (ltb t max_terms) (set (set (set (set ts (4 * t) tag) (4 * t + 1) value) (4 * t + 2) place) (4 * t + 3) origin) ts

-- one term more
abbrev pub add : ℕ → ℕ → ℕ → ℕ → State → State
add tag value place origin (state ns ts rs n t b r) = state ns (put_term ts t tag value place origin) rs n (counted max_terms t) b r

-- the last term ends a calculation that is an item of a set: 32 more in its tag
abbrev pub marked_tag : ℕ → ℕ
marked_tag tag = cond (ltb tag 32) (tag + 32) tag

-- so that the item `a` of a set is told from an end of `a~b`
unfoldable pub put_single : List ℕ → ℕ → List ℕ
put_single ts t = cond (leb t max_terms) (set ts (4 * (t - 1)) (marked_tag (get_or ts (4 * (t - 1)) 0))) ts

-- the same in what is read
abbrev pub single : State → State
single (state ns ts rs n t b r) = state ns (put_single ts t) rs n t b r

-- A node, ten words: kind, size, place, five operands, and the terms of a case's condition, from and up to.
unfoldable pub put_words : List ℕ → ℕ → (kind size place a b c d e : ℕ) → List ℕ
put_words ns k kind size place a b c d e =
    set (set (set (set (set (set (set (set (set (set ns k kind) (k + 1) size) (k + 2) place) (k + 3) a) (k + 4) b) (k + 5) c) (k + 6) d) (k + 7) e) (k + 8) 0) (k + 9) 0

-- the first n words of a list, written over those of another that has as many
unfoldable pub over : ℕ → List ℕ → List ℕ → List ℕ
over zero olds news = news
over (suc n) [] news = news
over (suc n) (a ∷ olds) [] = []
over (suc n) (a ∷ olds) (b ∷ news) = a ∷ over n olds news

-- all nodes from node i on move by one; what goes past the 256th is lost
unfoldable pub room : List ℕ → ℕ → List ℕ
unfolding over
room ns i = take (10 * i + 10) ns ++ over (nodes_room - 10 - 10 * i) (drop (10 * i) ns) (drop (10 * i + 10) ns)

-- a node in front of node i, which it holds with all after it
unfoldable pub put_node : List ℕ → ℕ → (kind size place a b c d e : ℕ) → List ℕ
put_node ns i kind size place a b c d e = cond (ltb i max_constructs) (put_words (room ns i) (10 * i) kind size place a b c d e) ns

-- the same in what is read; the new node is as large as all nodes from i on, itself counted
abbrev pub insert : (kind place i a b c d e : ℕ) → State → State
insert kind place i a b c d e (state ns ts rs n t bs r) =
    state (put_node ns i kind (counted max_constructs n - i) place a b c d e) ts rs (counted max_constructs n) t bs r

-- a node without parts, after all others
abbrev pub leaf : (kind place a b c d e : ℕ) → State → State
leaf kind place a b c d e st = insert kind place (nodes_of st) a b c d e st

-- the condition of the case whose body is node i
unfoldable pub put_condition : List ℕ → ℕ → ℕ → ℕ → List ℕ
put_condition ns i from end = cond (ltb i max_constructs) (set (set ns (10 * i + 8) from) (10 * i + 9) end) ns

-- the same in what is read
abbrev pub condition_on : ℕ → ℕ → ℕ → State → State
condition_on i from end (state ns ts rs n t b r) = state (put_condition ns i from end) ts rs n t b r

-- a binder
abbrev pub bind : State → State
bind (state ns ts rs n t b r) = state ns ts rs n t (counted max_variables b) r

-- A rule, five words: place of its name, its first node, and the nodes, terms and binders there are at its end. The first rule past the limit
-- is kept too, since refusal 5 is at its place.
unfoldable pub put_rule : List ℕ → ℕ → (place first nodes terms binders : ℕ) → List ℕ
put_rule rs r place first nodes terms binders =
    cond (ltb r rules_kept) (set (set (set (set (set rs (5 * r) place) (5 * r + 1) first) (5 * r + 2) nodes) (5 * r + 3) terms) (5 * r + 4) binders) rs

-- a rule ends here
abbrev pub close_rule : ℕ → ℕ → State → State
close_rule place first (state ns ts rs n t b r) = state ns ts (put_rule rs r place first n t b) n t b (counted max_rules r)
