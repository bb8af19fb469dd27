-- Rows are as many as are counted: nodes are constructs, terms are numbers, uses and signs, binders are variables.
-- Assumes nothing.
use Prim.Native.Nat.{ℕ, suc, ◌+◌, ◌≤◌}
use mathlib.Core.Path.{◌≡◌, refl, sym, ap, ap₂, ◌∙◌}
use mathlib.Core.Bool.{Bool, true, false}
use mathlib.Core.List.{List, [], ◌∷◌, ◌++◌}
use native.Mathlib.Omega.{arith}
use lib.ListN.{length, length-append}
use Rattle.tree.specs.Lexemes.{Sign, Name}
use Rattle.tree.specs.Tree.{Primary, number, variable, Operand, plain, opposite, Factors, no_factor, times, Product, product, Summands, no_summand, plus, minus, Calculation, sum, Item, everything, only, between, from, up_to_bound, SetPart, Choices, item, item_but_item, item_but_set, last_choice, or_choices, Counts, exactly, at_least_count, at_most, span, TestPart, Tests, compare, test_group, one_test, all_of, any_of, last_conjunct, and_conjuncts, last_disjunct, or_disjuncts, Mark, optional, any_number, one_or_more, counted, Part, Tree, literal, range, field, binder, rule_use, eod, group, switch, last_case, case_default, case_cases, once, repeated, last_member, and_members, last_branch, or_branches}
use Rattle.tree_form.specs.Stored.{start_of_product, tag_of}
use Rattle.tree_meaning.specs.Pieces.{primary_terms, operand_terms, factor_terms, product_terms, summand_terms, terms_of_calculation, Component, whole_number, joined_by, item_parts, set_parts, counts_parts, tests_parts, terms_of, Piece, use_of_rule, width, formula, binding, mark_pieces, pieces, bound_in}
use Rattle.tree_meaning.specs.Counted.{constructs, terms}
use Rattle.tree_meaning.proofs.Lengths.{some_construct}
use Rattle.tree_store.proofs.Rows.{NodeRow, on_first, TermRow, a_term, primary_rows, operand_rows, factors_rows, product_rows, summands_rows, calculation_rows, item_rows, set_rows, counts_rows, tests_rows, mark_rows, term_rows, node_rows, binders_in}
use Rattle.tree_store.proofs.Holding.{length_marked}

-- ---- nodes

pub length_first : (f g : ℕ) (M : List NodeRow) → length (on_first f g M) ≡ length M
length_first f g [] = refl
length_first f g (r ∷ more) = refl

two : {A : Type 0} (l m : List A) (i j : ℕ) → length l ≡ i → length m ≡ j → length (l ++ m) ≡ i + j
two l m i j e f = length-append l m ∙ ap₂ ◌+◌ e f

pub nodes_counted : {p : Part} {d : ℕ} (begun : Bool) (x : Tree p d) (t : ℕ) → length (node_rows begun x t) ≡ constructs begun x
unfolding node_rows constructs
nodes_counted begun (literal l) t = refl
nodes_counted begun (range a s b one one') t = refl
nodes_counted begun (field signed depth u opens n comma x closes) t = refl
nodes_counted begun (binder signed depth u opens n comma v opens' x comma' y closes closes') t = refl
nodes_counted begun (rule_use x other) t = refl
nodes_counted begun (eod s) t = refl
nodes_counted begun (group depth opens x closes) t = nodes_counted false x t
nodes_counted begun (switch depth opens x closes) t = ap suc (nodes_counted false x t)
nodes_counted begun (last_case c colon x end) t = length_first _ _ (node_rows false x (t + length (tests_rows c []))) ∙ nodes_counted false x (t + length (tests_rows c []))
nodes_counted begun (case_default c colon x end colon' y end') t =
    two (on_first t (t + length (tests_rows c [])) (node_rows false x (t + length (tests_rows c [])))) (node_rows false y (t + length (tests_rows c [] ++ term_rows x))) _ _
    (length_first t (t + length (tests_rows c [])) (node_rows false x (t + length (tests_rows c []))) ∙ nodes_counted false x (t + length (tests_rows c [])))
    (nodes_counted false y (t + length (tests_rows c [] ++ term_rows x)))
nodes_counted begun (case_cases c colon x end more) t =
    two (on_first t (t + length (tests_rows c [])) (node_rows false x (t + length (tests_rows c [])))) (node_rows false more (t + length (tests_rows c [] ++ term_rows x))) _ _
    (length_first t (t + length (tests_rows c [])) (node_rows false x (t + length (tests_rows c []))) ∙ nodes_counted false x (t + length (tests_rows c [])))
    (nodes_counted false more (t + length (tests_rows c [] ++ term_rows x)))
nodes_counted begun (once x) t = nodes_counted false x t
nodes_counted begun (repeated x m) t = ap suc (nodes_counted false x t)
nodes_counted begun (last_member x) t = nodes_counted false x t
nodes_counted false (and_members x s more) t =
    ap suc (two (node_rows false x t) (node_rows true more (t + length (term_rows x))) _ _ (nodes_counted false x t) (nodes_counted true more (t + length (term_rows x))))
nodes_counted true (and_members x s more) t =
    two (node_rows false x t) (node_rows true more (t + length (term_rows x))) _ _ (nodes_counted false x t) (nodes_counted true more (t + length (term_rows x)))
nodes_counted begun (last_branch x) t = nodes_counted false x t
nodes_counted false (or_branches x s more) t =
    ap suc (two (node_rows false x t) (node_rows true more (t + length (term_rows x))) _ _ (nodes_counted false x t) (nodes_counted true more (t + length (term_rows x))))
nodes_counted true (or_branches x s more) t =
    two (node_rows false x t) (node_rows true more (t + length (term_rows x))) _ _ (nodes_counted false x t) (nodes_counted true more (t + length (term_rows x)))

-- the parts of a chain are as many as are counted
pub chain_long : {p q : Part} {d e : ℕ} (x : Tree p d) (y : Tree q e) (t s : ℕ) → suc (constructs false x + constructs true y) ≡ suc (length (node_rows false x t ++ node_rows true y s))
chain_long x y t s = omega (arith, length-append (node_rows false x t) (node_rows true y s), nodes_counted false x t, nodes_counted true y s)

pub some_node : {p : Part} {d : ℕ} (begun : Bool) (x : Tree p d) (t : ℕ) → 1 ≤ length (node_rows begun x t)
some_node begun x t = rw (nodes_counted begun x t) (some_construct begun x)

-- ---- terms of calculations

primary_length : (o : ℕ) (x : Primary) → length (primary_rows o x) ≡ length (primary_terms x)
unfolding primary_rows
primary_length o (number n) = refl
primary_length o (variable x) = refl

operand_length : (o : ℕ) (x : Operand) → length (operand_rows o x) ≡ length (operand_terms x)
unfolding operand_rows
operand_length o (plain x) = primary_length o x
operand_length o (opposite s x) = omega (arith, primary_length o x, length-append (primary_rows o x) (a_term 6 0 s.start o ∷ []))

some_operand : (o : ℕ) (x : Operand) → 1 ≤ length (operand_rows o x)
unfolding operand_rows primary_rows
some_operand o (plain (number n)) = omega arith
some_operand o (plain (variable x)) = omega arith
some_operand o (opposite s (number n)) = omega arith
some_operand o (opposite s (variable x)) = omega arith

factors_length : (o : ℕ) (x : Factors) → length (factors_rows o x) ≡ length (factor_terms x)
unfolding factors_rows factor_terms
factors_length o no_factor = refl
factors_length o (times s x more) =
    omega (arith, length-append (operand_rows o x) (a_term 5 0 s.start o ∷ factors_rows o more), operand_length o x, factors_length o more, length-append (operand_terms x) (factor_terms more))

product_length : (o : ℕ) (x : Product) → length (product_rows o x) ≡ length (product_terms x)
unfolding product_rows
product_length o (product x more) =
    two (operand_rows o x) (factors_rows o more) _ _ (operand_length o x) (factors_length o more) ∙ sym (length-append (operand_terms x) (factor_terms more))

summands_length : (o : ℕ) (x : Summands) → length (summands_rows o x) ≡ length (summand_terms x)
unfolding summands_rows summand_terms
summands_length o no_summand = refl
summands_length o (plus s x more) =
    omega (arith, length-append (product_rows o x) (a_term 3 0 s.start o ∷ summands_rows o more), product_length o x, summands_length o more, length-append (product_terms x) (summand_terms more))
summands_length o (minus s x more) =
    omega (arith, length-append (product_rows o x) (a_term 4 0 s.start o ∷ summands_rows o more), product_length o x, summands_length o more, length-append (product_terms x) (summand_terms more))

pub calculation_length : (x : Calculation) → length (calculation_rows x) ≡ length (terms_of_calculation x)
unfolding calculation_rows
calculation_length (sum x more) =
    two (product_rows (start_of_product x) x) (summands_rows (start_of_product x) more) _ _ (product_length (start_of_product x) x) (summands_length (start_of_product x) more)
    ∙ sym (length-append (product_terms x) (summand_terms more))

some_product : (o : ℕ) (x : Product) → 1 ≤ length (product_rows o x)
unfolding product_rows
some_product o (product x more) = omega (arith, length-append (operand_rows o x) (factors_rows o more), some_operand o x)

pub some_calculation : (x : Calculation) → 1 ≤ length (calculation_rows x)
unfolding calculation_rows
some_calculation (sum x more) =
    omega (arith, length-append (product_rows (start_of_product x) x) (summands_rows (start_of_product x) more), some_product (start_of_product x) x)

-- ---- of sets, counts and conditions

terms_append : (l m : List Component) → length (terms_of (l ++ m)) ≡ length (terms_of l) + length (terms_of m)
unfolding terms_of
terms_append [] m = omega arith
terms_append (whole_number c ∷ l) m =
    omega (arith, length-append (terms_of_calculation c) (terms_of (l ++ m)), length-append (terms_of_calculation c) (terms_of l), terms_append l m)
terms_append (joined_by s ∷ l) m = omega (arith, terms_append l m)

-- a calculation, or two, and a sign
one_length : (a : Calculation) (s : TermRow) (m : List TermRow) → length (calculation_rows a ++ s ∷ m) ≡ suc (length (terms_of_calculation a) + length m)
one_length a s m = omega (arith, length-append (calculation_rows a) (s ∷ m), calculation_length a)

both_length : (a b : Calculation) (s : TermRow) (m : List TermRow) → length (calculation_rows a ++ (calculation_rows b ++ s ∷ m)) ≡ suc (length (terms_of_calculation a) + length (terms_of_calculation b) + length m)
both_length a b s m = omega (arith, length-append (calculation_rows a) (calculation_rows b ++ s ∷ m), one_length b s m, calculation_length a)

one_terms : (a : Calculation) → length (terms_of (whole_number a ∷ [])) ≡ length (terms_of_calculation a)
unfolding terms_of
one_terms a = omega (arith, length-append (terms_of_calculation a) [])

first_terms : (a : Calculation) (more : List Component) → length (terms_of (whole_number a ∷ more)) ≡ length (terms_of_calculation a) + length (terms_of more)
unfolding terms_of
first_terms a more = length-append (terms_of_calculation a) (terms_of more)

item_length : (x : Item) → length (item_rows x) ≡ length (terms_of (item_parts x))
unfolding item_rows terms_of
item_length (everything s) = refl
item_length (only a) = omega (arith, length_marked (calculation_rows a), calculation_length a, one_terms a)
item_length (between a s b) = omega (arith, both_length a b (a_term 8 0 s.start 0) [], first_terms a (joined_by s ∷ whole_number b ∷ []), one_terms b)
item_length (from a s) = omega (arith, one_length a (a_term 9 0 s.start 0) [], first_terms a (joined_by s ∷ []))
item_length (up_to_bound s b) = omega (arith, one_length b (a_term 10 0 s.start 0) [], one_terms b)

-- two parts and a sign between them
joined_terms : (l m : List Component) (s : Sign) → length (terms_of (l ++ joined_by s ∷ m)) ≡ suc (length (terms_of l) + length (terms_of m))
unfolding terms_of
joined_terms l m s = omega (arith, terms_append l (joined_by s ∷ m))

pub set_length : {p : SetPart} {d : ℕ} (x : Choices p d) (j : List TermRow) → length (set_rows x j) ≡ length (terms_of (set_parts x)) + length j
unfolding set_rows set_parts
set_length (item a) j = omega (arith, length-append (item_rows a) j, item_length a)
set_length (item_but_item a s b) j =
    omega (arith, length-append (item_rows a) (item_rows b ++ a_term 12 0 s.start 0 ∷ j), length-append (item_rows b) (a_term 12 0 s.start 0 ∷ j), item_length a, item_length b, joined_terms (item_parts a) (item_parts b) s)
set_length (item_but_set depth a s opens b closes) j =
    omega (arith, length-append (item_rows a) (set_rows b [] ++ a_term 12 0 s.start 0 ∷ j), length-append (set_rows b []) (a_term 12 0 s.start 0 ∷ j), item_length a, set_length b [], joined_terms (item_parts a) (set_parts b) s)
set_length (last_choice a) j = set_length a j
set_length (or_choices a s b) j =
    omega (arith, length-append (set_rows a j) (set_rows b (a_term 11 0 s.start 0 ∷ [])), set_length a j, set_length b (a_term 11 0 s.start 0 ∷ []), joined_terms (set_parts a) (set_parts b) s)

counts_length : (x : Counts) → length (counts_rows x) ≡ length (terms_of (counts_parts x))
unfolding counts_rows terms_of
counts_length (exactly n) = omega (arith, calculation_length n, one_terms n)
counts_length (at_least_count a s) = omega (arith, one_length a (a_term 9 0 s.start 0) [], first_terms a (joined_by s ∷ []))
counts_length (at_most s b) = omega (arith, one_length b (a_term 10 0 s.start 0) [], one_terms b)
counts_length (span a s b) = omega (arith, both_length a b (a_term 8 0 s.start 0) [], first_terms a (joined_by s ∷ whole_number b ∷ []), one_terms b)

compared_terms : (a b : Calculation) (s : Sign) → length (terms_of (whole_number a ∷ joined_by s ∷ whole_number b ∷ [])) ≡ suc (length (terms_of_calculation a) + length (terms_of_calculation b))
unfolding terms_of
compared_terms a b s = omega (arith, first_terms a (joined_by s ∷ whole_number b ∷ []), one_terms b)

pub tests_length : {p : TestPart} {d : ℕ} (x : Tests p d) (j : List TermRow) → length (tests_rows x j) ≡ length (terms_of (tests_parts x)) + length j
unfolding tests_rows tests_parts
tests_length (compare a c s b) j = omega (arith, both_length a b (a_term (tag_of c) 0 s.start 0) j, compared_terms a b s)
tests_length (test_group depth opens a closes) j = omega (arith, length-append (tests_rows a []) j, tests_length a [])
tests_length (one_test a) j = tests_length a j
tests_length (all_of a s b) j =
    omega (arith, length-append (tests_rows a j) (tests_rows b (a_term 13 0 s.start 0 ∷ [])), tests_length a j, tests_length b (a_term 13 0 s.start 0 ∷ []), joined_terms (tests_parts a) (tests_parts b) s)
tests_length (any_of a s b) j =
    omega (arith, length-append (tests_rows a j) (tests_rows b (a_term 11 0 s.start 0 ∷ [])), tests_length a j, tests_length b (a_term 11 0 s.start 0 ∷ []), joined_terms (tests_parts a) (tests_parts b) s)
tests_length (last_conjunct a) j = tests_length a j
tests_length (and_conjuncts a s b) j =
    omega (arith, length-append (tests_rows a j) (tests_rows b (a_term 13 0 s.start 0 ∷ [])), tests_length a j, tests_length b (a_term 13 0 s.start 0 ∷ []), joined_terms (tests_parts a) (tests_parts b) s)
tests_length (last_disjunct a) j = tests_length a j
tests_length (or_disjuncts a s b) j =
    omega (arith, length-append (tests_rows a j) (tests_rows b (a_term 11 0 s.start 0 ∷ [])), tests_length a j, tests_length b (a_term 11 0 s.start 0 ∷ []), joined_terms (tests_parts a) (tests_parts b) s)

-- ---- of a tree

pub pieces_append : (l m : List Piece) → terms (l ++ m) ≡ terms l + terms m
unfolding terms
pieces_append [] m = omega arith
pieces_append (use_of_rule x ∷ l) m = pieces_append l m
pieces_append (width most n ∷ l) m = pieces_append l m
pieces_append (formula f ∷ l) m = omega (arith, pieces_append l m)
pieces_append (binding x signed n placed ∷ l) m = pieces_append l m

pub bound_append : (l m : List Piece) → bound_in (l ++ m) ≡ bound_in l ++ bound_in m
unfolding bound_in
bound_append [] m = refl
bound_append (use_of_rule x ∷ l) m = bound_append l m
bound_append (width most n ∷ l) m = bound_append l m
bound_append (formula f ∷ l) m = bound_append l m
bound_append (binding x signed n placed ∷ l) m = ap {B = List Name} (λ r. x ∷ r) (bound_append l m)

mark_terms : (m : Mark) → length (mark_rows m) ≡ terms (mark_pieces m)
unfolding mark_rows terms
mark_terms (optional s) = refl
mark_terms (any_number s) = refl
mark_terms (one_or_more s) = refl
mark_terms (counted opens n closes) = omega (arith, counts_length n)

mark_bound : (m : Mark) → length (bound_in (mark_pieces m)) ≡ 0
unfolding bound_in
mark_bound (optional s) = refl
mark_bound (any_number s) = refl
mark_bound (one_or_more s) = refl
mark_bound (counted opens n closes) = refl

pub terms_counted : {p : Part} {d : ℕ} (top : Bool) (x : Tree p d) → length (term_rows x) ≡ terms (pieces top x)
unfolding term_rows pieces terms
terms_counted top (literal l) = refl
terms_counted top (range a s b one one') = refl
terms_counted top (field signed depth u opens n comma x closes) = omega (arith, set_length x [])
terms_counted top (binder signed depth u opens n comma v opens' x comma' y closes closes') = omega (arith, set_length y [])
terms_counted top (rule_use x other) = refl
terms_counted top (eod s) = refl
terms_counted top (group depth opens x closes) = terms_counted false x
terms_counted top (switch depth opens x closes) = terms_counted false x
terms_counted top (last_case c colon x end) = omega (arith, length-append (tests_rows c []) (term_rows x), tests_length c [], terms_counted false x)
terms_counted top (case_default c colon x end colon' y end') =
    omega (arith, length-append (tests_rows c [] ++ term_rows x) (term_rows y), length-append (tests_rows c []) (term_rows x), tests_length c [], terms_counted false x, terms_counted false y, pieces_append (pieces false x) (pieces false y))
terms_counted top (case_cases c colon x end more) =
    omega (arith, length-append (tests_rows c [] ++ term_rows x) (term_rows more), length-append (tests_rows c []) (term_rows x), tests_length c [], terms_counted false x, terms_counted false more, pieces_append (pieces false x) (pieces false more))
terms_counted top (once x) = terms_counted top x
terms_counted top (repeated x m) =
    omega (arith, length-append (term_rows x) (mark_rows m), mark_terms m, terms_counted false x, pieces_append (mark_pieces m) (pieces false x))
terms_counted top (last_member x) = terms_counted top x
terms_counted top (and_members x s more) =
    omega (arith, length-append (term_rows x) (term_rows more), terms_counted top x, terms_counted top more, pieces_append (pieces top x) (pieces top more))
terms_counted top (last_branch x) = terms_counted top x
terms_counted top (or_branches x s more) =
    omega (arith, length-append (term_rows x) (term_rows more), terms_counted false x, terms_counted false more, pieces_append (pieces false x) (pieces false more))

-- ---- binders

-- of two parts
bound_both : (l m : List Piece) (i j : ℕ) → i ≡ length (bound_in l) → j ≡ length (bound_in m) → i + j ≡ length (bound_in (l ++ m))
bound_both l m i j e f = omega (arith, ap length (bound_append l m), length-append (bound_in l) (bound_in m))

pub binders_counted : {p : Part} {d : ℕ} (top : Bool) (x : Tree p d) → binders_in x ≡ length (bound_in (pieces top x))
unfolding binders_in pieces bound_in
binders_counted top (literal l) = refl
binders_counted top (range a s b one one') = refl
binders_counted top (field signed depth u opens n comma x closes) = refl
binders_counted top (binder signed depth u opens n comma v opens' x comma' y closes closes') = refl
binders_counted top (rule_use x other) = refl
binders_counted top (eod s) = refl
binders_counted top (group depth opens x closes) = binders_counted false x
binders_counted top (switch depth opens x closes) = binders_counted false x
binders_counted top (last_case c colon x end) = binders_counted false x
binders_counted top (case_default c colon x end colon' y end') = bound_both (pieces false x) (pieces false y) (binders_in x) (binders_in y) (binders_counted false x) (binders_counted false y)
binders_counted top (case_cases c colon x end more) = bound_both (pieces false x) (pieces false more) (binders_in x) (binders_in more) (binders_counted false x) (binders_counted false more)
binders_counted top (once x) = binders_counted top x
binders_counted top (repeated x m) = omega (arith, bound_both (mark_pieces m) (pieces false x) 0 (binders_in x) (sym (mark_bound m)) (binders_counted false x))
binders_counted top (last_member x) = binders_counted top x
binders_counted top (and_members x s more) = bound_both (pieces top x) (pieces top more) (binders_in x) (binders_in more) (binders_counted top x) (binders_counted top more)
binders_counted top (last_branch x) = binders_counted top x
binders_counted top (or_branches x s more) = bound_both (pieces false x) (pieces false more) (binders_in x) (binders_in more) (binders_counted false x) (binders_counted false more)
