-- What the reader stores of a tree, as plain lists: a row for each node in preorder, for each term in the order of the text, for each rule. Helpers of this
-- crate's laws, which say that the store's words are these rows.
-- Assumes nothing.
use Prim.Native.Nat.{ℕ, suc, ◌+◌, min}
use mathlib.Core.Bool.{Bool, true, false}
use mathlib.Core.List.{List, [], ◌∷◌, ◌++◌}
use lib.ListN.{length}
use Rattle.text_tokens.specs.Numbers.{capped}
use Rattle.text_store.specs.Store.{marked_tag}
use Rattle.tree.specs.Tree.{Primary, number, variable, Operand, plain, opposite, Factors, no_factor, times, Product, product, Summands, no_summand, plus, minus, Calculation, sum, Item, everything, only, between, from, up_to_bound, SetPart, Choices, item, item_but_item, item_but_set, last_choice, or_choices, Counts, exactly, at_least_count, at_most, span, TestPart, Tests, compare, test_group, one_test, all_of, any_of, last_conjunct, and_conjuncts, last_disjunct, or_disjuncts, Mark, optional, any_number, one_or_more, counted, Part, Tree, literal, range, field, binder, rule_use, eod, group, switch, last_case, case_default, case_cases, once, repeated, last_member, and_members, last_branch, or_branches, Rule, Rules}
use Rattle.tree_form.specs.Stored.{start_of_product, tag_of, start_of, how_bound}
use Rattle.tree_meaning.specs.Pieces.{rules_of, rule_name, rule_body}
use Rattle.tree_meaning.specs.Counted.{constructs, Totals, no_rule, with_rule}

-- ---- rows

-- a node; `first` and `second` are a mark and its place, a range's last place, a uint's width's place and bound name's place
pub record NodeRow : Type 0 where
  pub kind : ℕ
  pub size : ℕ
  pub place : ℕ
  pub first : ℕ
  pub second : ℕ
  pub own_from : ℕ
  pub own_end : ℕ
  pub how : ℕ
  pub case_from : ℕ
  pub case_end : ℕ

abbrev pub node_fields : NodeRow → List ℕ
node_fields r =
    r.kind ∷ r.size ∷ r.place ∷ r.first ∷ r.second ∷ r.own_from ∷ r.own_end ∷ r.how ∷ r.case_from ∷ r.case_end ∷ []

-- one that is no case's body
abbrev pub a_node : (kind size place a b c d e : ℕ) → NodeRow
a_node kind size place a b c d e =
    record { kind = kind; size = size; place = place; first = a; second = b; own_from = c; own_end = d; how = e; case_from = 0; case_end = 0 }

abbrev pub no_node : NodeRow
no_node = a_node 0 0 0 0 0 0 0 0

-- the same as the body of a case, whose condition has these terms
abbrev pub in_case : ℕ → ℕ → NodeRow → NodeRow
in_case f g r =
    record { kind = r.kind; size = r.size; place = r.place; first = r.first; second = r.second; own_from = r.own_from; own_end = r.own_end; how = r.how; case_from = f; case_end = g }

-- the first of these
abbrev pub on_first : ℕ → ℕ → List NodeRow → List NodeRow
on_first f g [] = []
on_first f g (r ∷ more) = in_case f g r ∷ more

pub record TermRow : Type 0 where
  pub tag : ℕ
  pub value : ℕ
  pub place : ℕ
  pub origin : ℕ

abbrev pub term_fields : TermRow → List ℕ
term_fields r = r.tag ∷ r.value ∷ r.place ∷ r.origin ∷ []

abbrev pub a_term : (tag value place origin : ℕ) → TermRow
a_term tag value place origin = record { tag = tag; value = value; place = place; origin = origin }

abbrev pub no_term : TermRow
no_term = a_term 0 0 0 0

abbrev pub marked : TermRow → TermRow
marked r = a_term (marked_tag r.tag) r.value r.place r.origin

-- the last of these is marked as an item's end
unfoldable pub last_marked : List TermRow → List TermRow
last_marked [] = []
last_marked (r ∷ []) = marked r ∷ []
last_marked (r ∷ q ∷ more) = r ∷ last_marked (q ∷ more)

pub record RuleRow : Type 0 where
  pub place : ℕ
  pub first : ℕ
  pub nodes : ℕ
  pub terms : ℕ
  pub binders : ℕ

abbrev pub rule_fields : RuleRow → List ℕ
rule_fields r = r.place ∷ r.first ∷ r.nodes ∷ r.terms ∷ r.binders ∷ []

abbrev pub no_rule_row : RuleRow
no_rule_row = record { place = 0; first = 0; nodes = 0; terms = 0; binders = 0 }

-- ---- terms of calculations; o is the first byte of the whole calculation

unfoldable pub primary_rows : ℕ → Primary → List TermRow
primary_rows o (number n) = a_term 1 (capped n.value) n.start o ∷ []
primary_rows o (variable x) = a_term 2 0 x.start o ∷ []

unfoldable pub operand_rows : ℕ → Operand → List TermRow
operand_rows o (plain x) = primary_rows o x
operand_rows o (opposite s x) = primary_rows o x ++ (a_term 6 0 s.start o ∷ [])

unfoldable pub factors_rows : ℕ → Factors → List TermRow
factors_rows o no_factor = []
factors_rows o (times s x more) = operand_rows o x ++ (a_term 5 0 s.start o ∷ factors_rows o more)

unfoldable pub product_rows : ℕ → Product → List TermRow
product_rows o (product x more) = operand_rows o x ++ factors_rows o more

unfoldable pub summands_rows : ℕ → Summands → List TermRow
summands_rows o no_summand = []
summands_rows o (plus s x more) = product_rows o x ++ (a_term 3 0 s.start o ∷ summands_rows o more)
summands_rows o (minus s x more) = product_rows o x ++ (a_term 4 0 s.start o ∷ summands_rows o more)

unfoldable pub calculation_rows : Calculation → List TermRow
calculation_rows (sum x more) = product_rows (start_of_product x) x ++ summands_rows (start_of_product x) more

-- ---- of sets, counts and conditions; j are the terms that join the first alternative to what stands before it

unfoldable pub item_rows : Item → List TermRow
item_rows (everything s) = a_term 7 0 s.start 0 ∷ []
item_rows (only a) = last_marked (calculation_rows a)
item_rows (between a s b) = calculation_rows a ++ (calculation_rows b ++ (a_term 8 0 s.start 0 ∷ []))
item_rows (from a s) = calculation_rows a ++ (a_term 9 0 s.start 0 ∷ [])
item_rows (up_to_bound s b) = calculation_rows b ++ (a_term 10 0 s.start 0 ∷ [])

unfoldable pub set_rows : {p : SetPart} {d : ℕ} → Choices p d → List TermRow → List TermRow
set_rows (item a) j = item_rows a ++ j
set_rows (item_but_item a s b) j = item_rows a ++ (item_rows b ++ (a_term 12 0 s.start 0 ∷ j))
set_rows (item_but_set depth a s opens b closes) j = item_rows a ++ (set_rows b [] ++ (a_term 12 0 s.start 0 ∷ j))
set_rows (last_choice a) j = set_rows a j
set_rows (or_choices a s b) j = set_rows a j ++ set_rows b (a_term 11 0 s.start 0 ∷ [])

unfoldable pub counts_rows : Counts → List TermRow
counts_rows (exactly n) = calculation_rows n
counts_rows (at_least_count a s) = calculation_rows a ++ (a_term 9 0 s.start 0 ∷ [])
counts_rows (at_most s b) = calculation_rows b ++ (a_term 10 0 s.start 0 ∷ [])
counts_rows (span a s b) = calculation_rows a ++ (calculation_rows b ++ (a_term 8 0 s.start 0 ∷ []))

unfoldable pub tests_rows : {p : TestPart} {d : ℕ} → Tests p d → List TermRow → List TermRow
tests_rows (compare a c s b) j = calculation_rows a ++ (calculation_rows b ++ (a_term (tag_of c) 0 s.start 0 ∷ j))
tests_rows (test_group depth opens a closes) j = tests_rows a [] ++ j
tests_rows (one_test a) j = tests_rows a j
tests_rows (all_of a s b) j = tests_rows a j ++ tests_rows b (a_term 13 0 s.start 0 ∷ [])
tests_rows (any_of a s b) j = tests_rows a j ++ tests_rows b (a_term 11 0 s.start 0 ∷ [])
tests_rows (last_conjunct a) j = tests_rows a j
tests_rows (and_conjuncts a s b) j = tests_rows a j ++ tests_rows b (a_term 13 0 s.start 0 ∷ [])
tests_rows (last_disjunct a) j = tests_rows a j
tests_rows (or_disjuncts a s b) j = tests_rows a j ++ tests_rows b (a_term 11 0 s.start 0 ∷ [])

-- ---- of a tree

unfoldable pub mark_rows : Mark → List TermRow
mark_rows (optional s) = []
mark_rows (any_number s) = []
mark_rows (one_or_more s) = []
mark_rows (counted opens n closes) = counts_rows n

unfoldable pub term_rows : {p : Part} {d : ℕ} → Tree p d → List TermRow
term_rows (literal l) = []
term_rows (range a s b one one') = []
term_rows (field signed depth u opens n comma x closes) = set_rows x []
term_rows (binder signed depth u opens n comma v opens' x comma' y closes closes') = set_rows y []
term_rows (rule_use x other) = []
term_rows (eod s) = []
term_rows (group depth opens x closes) = term_rows x
term_rows (switch depth opens x closes) = term_rows x
term_rows (last_case c colon x end) = tests_rows c [] ++ term_rows x
term_rows (case_default c colon x end colon' y end') = tests_rows c [] ++ term_rows x ++ term_rows y
term_rows (case_cases c colon x end more) = tests_rows c [] ++ term_rows x ++ term_rows more
term_rows (once x) = term_rows x
term_rows (repeated x m) = term_rows x ++ mark_rows m
term_rows (last_member x) = term_rows x
term_rows (and_members x s more) = term_rows x ++ term_rows more
term_rows (last_branch x) = term_rows x
term_rows (or_branches x s more) = term_rows x ++ term_rows more

-- ---- nodes, the first of whose terms is number t; `begun` as in `constructs`

-- a repetition of an item that begins at p, its counts from term t on
abbrev pub mark_row : Mark → (size p t : ℕ) → NodeRow
mark_row (optional s) size p t = a_node 3 size p 1 s.start 0 0 0
mark_row (any_number s) size p t = a_node 3 size p 2 s.start 0 0 0
mark_row (one_or_more s) size p t = a_node 3 size p 3 s.start 0 0 0
mark_row (counted opens n closes) size p t = a_node 3 size p 4 opens.start t (t + length (counts_rows n)) 0

unfoldable pub node_rows : {p : Part} {d : ℕ} → (begun : Bool) → Tree p d → (t : ℕ) → List NodeRow
node_rows begun (literal l) t = a_node 6 1 l.start 0 0 0 0 0 ∷ []
node_rows begun (range a s b one one') t = a_node 7 1 a.start b.start 0 0 0 0 ∷ []
node_rows begun (field signed depth u opens n comma x closes) t = a_node 8 1 u.start n.start 0 t (t + length (set_rows x [])) 0 ∷ []
node_rows begun (binder {d} signed depth u opens n comma v opens' x comma' y closes closes') t =
    a_node 8 1 u.start n.start x.start t (t + length (set_rows y [])) (how_bound (d + 1 + 1)) ∷ []
node_rows begun (rule_use x other) t = a_node 5 1 x.start 0 0 0 0 0 ∷ []
node_rows begun (eod s) t = a_node 9 1 s.start 0 0 0 0 0 ∷ []
node_rows begun (group depth opens x closes) t = node_rows false x t
node_rows begun (switch depth opens x closes) t = a_node 4 (suc (constructs false x)) opens.start 0 0 0 0 0 ∷ node_rows false x t
node_rows begun (last_case c colon x end) t =
    on_first t (t + length (tests_rows c [])) (node_rows false x (t + length (tests_rows c [])))
node_rows begun (case_default c colon x end colon' y end') t =
    on_first t (t + length (tests_rows c [])) (node_rows false x (t + length (tests_rows c [])))
    ++ node_rows false y (t + length (tests_rows c [] ++ term_rows x))
node_rows begun (case_cases c colon x end more) t =
    on_first t (t + length (tests_rows c [])) (node_rows false x (t + length (tests_rows c [])))
    ++ node_rows false more (t + length (tests_rows c [] ++ term_rows x))
node_rows begun (once x) t = node_rows false x t
node_rows begun (repeated x m) t = mark_row m (suc (constructs false x)) (start_of x) (t + length (term_rows x)) ∷ node_rows false x t
node_rows begun (last_member x) t = node_rows false x t
node_rows false (and_members x s more) t =
    a_node 2 (suc (constructs false x + constructs true more)) (start_of x) 0 0 0 0 0 ∷ (node_rows false x t ++ node_rows true more (t + length (term_rows x)))
node_rows true (and_members x s more) t = node_rows false x t ++ node_rows true more (t + length (term_rows x))
node_rows begun (last_branch x) t = node_rows false x t
node_rows false (or_branches x s more) t =
    a_node 1 (suc (constructs false x + constructs true more)) (start_of x) 0 0 0 0 0 ∷ (node_rows false x t ++ node_rows true more (t + length (term_rows x)))
node_rows true (or_branches x s more) t = node_rows false x t ++ node_rows true more (t + length (term_rows x))

-- how many binders it has
unfoldable pub binders_in : {p : Part} {d : ℕ} → Tree p d → ℕ
binders_in (literal l) = 0
binders_in (range a s b one one') = 0
binders_in (field signed depth u opens n comma x closes) = 0
binders_in (binder signed depth u opens n comma v opens' x comma' y closes closes') = 1
binders_in (rule_use x other) = 0
binders_in (eod s) = 0
binders_in (group depth opens x closes) = binders_in x
binders_in (switch depth opens x closes) = binders_in x
binders_in (last_case c colon x end) = binders_in x
binders_in (case_default c colon x end colon' y end') = binders_in x + binders_in y
binders_in (case_cases c colon x end more) = binders_in x + binders_in more
binders_in (once x) = binders_in x
binders_in (repeated x m) = binders_in x
binders_in (last_member x) = binders_in x
binders_in (and_members x s more) = binders_in x + binders_in more
binders_in (last_branch x) = binders_in x
binders_in (or_branches x s more) = binders_in x + binders_in more

-- ---- of rules, the first of whose terms is number t

unfoldable pub rules_nodes : (t : ℕ) → List Rule → List NodeRow
rules_nodes t [] = []
rules_nodes t (r ∷ more) = node_rows false (rule_body r) t ++ rules_nodes (t + length (term_rows (rule_body r))) more

unfoldable pub rules_terms : List Rule → List TermRow
rules_terms [] = []
rules_terms (r ∷ more) = term_rows (rule_body r) ++ rules_terms more

unfoldable pub rules_binders : List Rule → ℕ
rules_binders [] = 0
rules_binders (r ∷ more) = binders_in (rule_body r) + rules_binders more

-- a rule after rules of these totals; each total is counted up to one past its limit
abbrev pub rule_row : Totals → Rule → RuleRow
rule_row n r =
    record {
      place = (rule_name r).start;
      first = min n.all_constructs 257;
      nodes = min (with_rule n r).all_constructs 257;
      terms = min (with_rule n r).all_terms 1025;
      binders = min (with_rule n r).variables 65;
    }

unfoldable pub rules_rows : Totals → List Rule → List RuleRow
rules_rows n [] = []
rules_rows n (r ∷ more) = rule_row n r ∷ rules_rows (with_rule n r) more

-- the totals of these rules, after rules of these totals
unfoldable pub totals : Totals → List Rule → Totals
totals n [] = n
totals n (r ∷ more) = totals (with_rule n r) more

-- ---- of a text's rules

abbrev pub tree_nodes : Rules → List NodeRow
tree_nodes t = rules_nodes 0 (rules_of t)

abbrev pub tree_terms : Rules → List TermRow
tree_terms t = rules_terms (rules_of t)

abbrev pub tree_rules : Rules → List RuleRow
tree_rules t = rules_rows no_rule (rules_of t)

abbrev pub tree_binders : Rules → ℕ
tree_binders t = rules_binders (rules_of t)

abbrev pub tree_totals : Rules → Totals
tree_totals t = totals no_rule (rules_of t)
