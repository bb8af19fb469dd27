-- What a tree has of names, numbers, calculations and signs, in the order of its constructs.
-- Assumes nothing.
use Rattle.std.specs.Prelude.{ℕ, Bool, true, false, List, [], ◌∷◌, ◌++◌}
use Rattle.basis.specs.Limits.{max_width, max_bound_width}
use Rattle.tree.specs.Lexemes.{Sign, Name, Number}
use Rattle.tree.specs.Tree.{Primary, number, variable, Operand, plain, opposite, Factors, no_factor, times, Product, product, Summands, no_summand, plus, minus, Calculation, sum, Item, everything, only, between, from, up_to_bound, SetPart, Choices, item, item_but_item, item_but_set, last_choice, or_choices, Counts, exactly, at_least_count, at_most, span, TestPart, Tests, compare, test_group, one_test, all_of, any_of, last_conjunct, and_conjuncts, last_disjunct, or_disjuncts, Mark, optional, any_number, one_or_more, counted, expression, Part, Tree, literal, range, field, binder, rule_use, eod, group, switch, last_case, case_default, case_cases, once, repeated, last_member, and_members, last_branch, or_branches, Rule, rule, Rules, last_rule, and_rules}

-- ---- "numbers, variable uses and signs (`~ | ! & + - *`, comparisons) in sets, counts and conditions (parentheses free)"

pub data Term : Type 0 where
  a_number : Number → Term
  a_use : Name → Term
  a_sign : Sign → Term

abbrev pub primary_terms : Primary → List Term
primary_terms (number n) = a_number n ∷ []
primary_terms (variable x) = a_use x ∷ []

abbrev pub operand_terms : Operand → List Term
operand_terms (plain x) = primary_terms x
operand_terms (opposite s x) = a_sign s ∷ primary_terms x

unfoldable pub factor_terms : Factors → List Term
factor_terms no_factor = []
factor_terms (times s x more) = a_sign s ∷ (operand_terms x ++ factor_terms more)

abbrev pub product_terms : Product → List Term
product_terms (product x more) = operand_terms x ++ factor_terms more

unfoldable pub summand_terms : Summands → List Term
summand_terms no_summand = []
summand_terms (plus s x more) = a_sign s ∷ (product_terms x ++ summand_terms more)
summand_terms (minus s x more) = a_sign s ∷ (product_terms x ++ summand_terms more)

abbrev pub terms_of_calculation : Calculation → List Term
terms_of_calculation (sum x more) = product_terms x ++ summand_terms more

-- ---- what a set, counts or a condition is made of: calculations, and signs between them

pub data Component : Type 0 where
  whole_number : Calculation → Component
  joined_by : Sign → Component

abbrev pub item_parts : Item → List Component
item_parts (everything s) = joined_by s ∷ []
item_parts (only a) = whole_number a ∷ []
item_parts (between a s b) = whole_number a ∷ joined_by s ∷ whole_number b ∷ []
item_parts (from a s) = whole_number a ∷ joined_by s ∷ []
item_parts (up_to_bound s b) = joined_by s ∷ whole_number b ∷ []

unfoldable pub set_parts : {p : SetPart} {d : ℕ} → Choices p d → List Component
set_parts (item a) = item_parts a
set_parts (item_but_item a s b) = item_parts a ++ (joined_by s ∷ item_parts b)
set_parts (item_but_set depth a s opens b closes) = item_parts a ++ (joined_by s ∷ set_parts b)
set_parts (last_choice a) = set_parts a
set_parts (or_choices a s b) = set_parts a ++ (joined_by s ∷ set_parts b)

abbrev pub counts_parts : Counts → List Component
counts_parts (exactly n) = whole_number n ∷ []
counts_parts (at_least_count a s) = whole_number a ∷ joined_by s ∷ []
counts_parts (at_most s b) = joined_by s ∷ whole_number b ∷ []
counts_parts (span a s b) = whole_number a ∷ joined_by s ∷ whole_number b ∷ []

unfoldable pub tests_parts : {p : TestPart} {d : ℕ} → Tests p d → List Component
tests_parts (compare a c s b) = whole_number a ∷ joined_by s ∷ whole_number b ∷ []
tests_parts (test_group depth opens a closes) = tests_parts a
tests_parts (one_test a) = tests_parts a
tests_parts (all_of a s b) = tests_parts a ++ (joined_by s ∷ tests_parts b)
tests_parts (any_of a s b) = tests_parts a ++ (joined_by s ∷ tests_parts b)
tests_parts (last_conjunct a) = tests_parts a
tests_parts (and_conjuncts a s b) = tests_parts a ++ (joined_by s ∷ tests_parts b)
tests_parts (last_disjunct a) = tests_parts a
tests_parts (or_disjuncts a s b) = tests_parts a ++ (joined_by s ∷ tests_parts b)

-- all its terms
unfoldable pub terms_of : List Component → List Term
terms_of [] = []
terms_of (whole_number c ∷ more) = terms_of_calculation c ++ terms_of more
terms_of (joined_by s ∷ more) = a_sign s ∷ terms_of more

-- the variables that are used among terms
unfoldable pub uses_in : List Term → List Name
uses_in [] = []
uses_in (a_number n ∷ more) = uses_in more
uses_in (a_use x ∷ more) = x ∷ uses_in more
uses_in (a_sign s ∷ more) = uses_in more

-- ---- what a tree has

pub data Piece : Type 0 where
  -- "a rule's name"
  use_of_rule : Name → Piece
  -- a uint's or sint's width, and the most that it may be: "Widths go to 64", of a binder 62 (Req 10)
  width : (most : ℕ) → Number → Piece
  -- a set, counts or a condition
  formula : List Component → Piece
  -- a variable's name in its binder, whether it is signed, and the width; `placed`: "A binder is the whole body of a rule or a member of its top concatenation, outside any group"
  binding : Name → (signed : Bool) → Number → (placed : Bool) → Piece

abbrev pub mark_pieces : Mark → List Piece
mark_pieces (optional s) = []
mark_pieces (any_number s) = []
mark_pieces (one_or_more s) = []
mark_pieces (counted opens n closes) = formula (counts_parts n) ∷ []

-- Constructs in their order, "the outer before the inner"; a binder binds after its own set. `top`: it is the whole body of a rule or a member of its
-- top concatenation.
unfoldable pub pieces : {p : Part} {d : ℕ} → (top : Bool) → Tree p d → List Piece
pieces top (literal l) = []
pieces top (range a s b one one') = []
pieces top (field signed depth u opens n comma x closes) = width max_width n ∷ formula (set_parts x) ∷ []
pieces top (binder signed depth u opens n comma v opens' x comma' y closes closes') = width max_bound_width n ∷ formula (set_parts y) ∷ binding x signed n top ∷ []
pieces top (rule_use x other) = use_of_rule x ∷ []
pieces top (eod s) = []
pieces top (group depth opens x closes) = pieces false x
pieces top (switch depth opens x closes) = pieces false x
pieces top (last_case c colon x end) = formula (tests_parts c) ∷ pieces false x
pieces top (case_default c colon x end colon' y end') = formula (tests_parts c) ∷ (pieces false x ++ pieces false y)
pieces top (case_cases c colon x end more) = formula (tests_parts c) ∷ (pieces false x ++ pieces false more)
pieces top (once x) = pieces top x
pieces top (repeated x m) = mark_pieces m ++ pieces false x
pieces top (last_member x) = pieces top x
pieces top (and_members x s more) = pieces top x ++ pieces top more
pieces top (last_branch x) = pieces top x
pieces top (or_branches x s more) = pieces false x ++ pieces false more

-- the variables that are bound among them
unfoldable pub bound_in : List Piece → List Name
bound_in [] = []
bound_in (use_of_rule x ∷ more) = bound_in more
bound_in (width most n ∷ more) = bound_in more
bound_in (formula f ∷ more) = bound_in more
bound_in (binding x signed n placed ∷ more) = x ∷ bound_in more

-- ---- rules

unfoldable pub rules_of : Rules → List Rule
rules_of (last_rule r) = r ∷ []
rules_of (and_rules r more) = r ∷ rules_of more

abbrev pub rule_name : Rule → Name
rule_name (rule x is e end) = x

abbrev pub rule_body : Rule → Tree expression 0
rule_body (rule x is e end) = e

abbrev pub rule_pieces : Rule → List Piece
rule_pieces r = pieces true (rule_body r)

-- "Variables are local to a rule", each for a binder, in text order
abbrev pub variables_of : Rule → List Name
variables_of r = bound_in (rule_pieces r)
