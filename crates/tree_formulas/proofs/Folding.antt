-- A set, counts or a condition of a tree as the tree that a list of terms holds (`term_trees`): what is stored is its list. A variable is the place of its name.
-- Assumes nothing.
use Prim.Native.Nat.{ℕ, ◌+◌, ◌-◌, ◌*◌, ◌<◌}
use mathlib.Core.Path.{◌≡◌, refl, sym, ap, ap₂, ◌∙◌}
use mathlib.Core.Bool.{Bool, true, false, cond}
use mathlib.Core.List.{List, [], ◌∷◌, ◌++◌, map, append-nil, append_assoc}
use native.Mathlib.Omega.{arith}
use borrow.Author.Tests.{ltb-true, lt-ltb, le-ltb}
use lib.Dec.{ltb}
use Rattle.text_tokens.specs.Numbers.{capped}
use Rattle.text_store.specs.Store.{marked_tag}
use Rattle.text_store.specs.Words.{is_use}
use Rattle.term_words.specs.Words.{operation_of, sign_of, term_of}
use Rattle.term_words.specs.declared.Operation.{Operation}
use Rattle.term_words.specs.declared.Comparison.{Comparison}
use Rattle.term_words.specs.declared.Term.{Term}
use Rattle.term_trees.specs.Trees.{Calculation as Held, literal, use_of, plus as added, minus as less_by, times as multiplied, opposite as negated, ValueSet as HeldSet, everything as whole-line, only as single, between as within, from as onward, up_to, either, without, Condition as HeldCondition, compare as comparing, both as all_hold, any as one-Holds, Repeats, exact, on_from, up_to_bound as at-most-so, spanning}
use Rattle.term_trees.specs.Postfix.{last_sign, before, calculation_terms, set_terms, condition_terms, repeat_terms}
use Rattle.tree.specs.Tree.{Primary, number, variable, Operand, plain, opposite, Factors, no_factor, times, Product, product, Summands, no_summand, plus, minus, Calculation, sum, Item, everything, only, between, from, up_to_bound, SetPart, Choices, item, item_but_item, item_but_set, last_choice, or_choices, Counts, exactly, at_least_count, at_most, span, Comparison as Sign-of, equal, unequal, less, at_most_as, greater, at_least_as, TestPart, Tests, compare, test_group, one_test, all_of, any_of, last_conjunct, and_conjuncts, last_disjunct, or_disjuncts}
use Rattle.tree_form.specs.Stored.{start_of_product, tag_of}
use Rattle.tree_store.proofs.Uses.{use_marked}
use Rattle.tree_store.proofs.Rows.{TermRow, a_term, marked, last_marked, primary_rows, operand_rows, factors_rows, product_rows, summands_rows, calculation_rows, item_rows, set_rows, counts_rows, tests_rows}

-- what a row says
abbrev pub row_term : TermRow → Term
row_term r = term_of r.tag (cond (is_use r.tag) r.place r.value) 0

abbrev pub row_terms : List TermRow → List Term
row_terms A = map row_term A

rows_append : (A B : List TermRow) → row_terms (A ++ B) ≡ row_terms A ++ row_terms B
rows_append [] B = refl
rows_append (r ∷ A) B = ap {B = List Term} (λ l. row_term r ∷ l) (rows_append A B)

-- ---- calculations

abbrev pub held_primary : Primary → Held
held_primary (number n) = literal (capped n.value)
held_primary (variable x) = use_of x.start

abbrev pub held_operand : Operand → Held
held_operand (plain x) = held_primary x
held_operand (opposite s x) = negated (held_primary x)

-- from the left, after what stands before
unfoldable pub held_factors : Held → Factors → Held
held_factors c no_factor = c
held_factors c (times s x more) = held_factors (multiplied c (held_operand x)) more

abbrev pub held_product : Product → Held
held_product (product x more) = held_factors (held_operand x) more

unfoldable pub held_summands : Held → Summands → Held
held_summands c no_summand = c
held_summands c (plus s x more) = held_summands (added c (held_product x)) more
held_summands c (minus s x more) = held_summands (less_by c (held_product x)) more

abbrev pub held_calculation : Calculation → Held
held_calculation (sum x more) = held_summands (held_product x) more

-- terms a, then b with a sign, then more
in_line : (a b c : List Term) (t : Term) → ((a ++ b) ++ (t ∷ [])) ++ c ≡ a ++ (b ++ (t ∷ c))
in_line a b c t = append_assoc (a ++ b) (t ∷ []) c ∙ append_assoc a b (t ∷ c)

primary_terms : (o : ℕ) (x : Primary) → row_terms (primary_rows o x) ≡ calculation_terms (held_primary x)
unfolding primary_rows term_of before
primary_terms o (number n) = ap (λ (k : ℕ). Term.Part (Operation.Number k) ∷ []) (let q : capped n.value + 4294967296 * 0 ≡ capped n.value = omega arith in q)
primary_terms o (variable x) = refl

operand_terms : (o : ℕ) (x : Operand) → row_terms (operand_rows o x) ≡ calculation_terms (held_operand x)
unfolding operand_rows term_of before
operand_terms o (plain x) = primary_terms o x
operand_terms o (opposite s x) = rows_append (primary_rows o x) (a_term 6 0 s.start o ∷ []) ∙ ap (λ (l : List Term). l ++ (Term.Part Operation.Negate ∷ [])) (primary_terms o x)

factors_terms : (o : ℕ) (c : Held) (x : Factors) → calculation_terms (held_factors c x) ≡ calculation_terms c ++ row_terms (factors_rows o x)
unfolding factors_rows held_factors term_of before
factors_terms o c no_factor = sym (append-nil (calculation_terms c))
factors_terms o c (times s x more) =
    factors_terms o (multiplied c (held_operand x)) more
    ∙ in_line (calculation_terms c) (calculation_terms (held_operand x)) (row_terms (factors_rows o more)) (Term.Part Operation.Multiply)
    ∙ ap (λ (l : List Term). calculation_terms c ++ (l ++ (Term.Part Operation.Multiply ∷ row_terms (factors_rows o more)))) (sym (operand_terms o x))
    ∙ ap (λ (l : List Term). calculation_terms c ++ l) (sym (rows_append (operand_rows o x) (a_term 5 0 s.start o ∷ factors_rows o more)))

product_terms : (o : ℕ) (x : Product) → row_terms (product_rows o x) ≡ calculation_terms (held_product x)
unfolding product_rows
product_terms o (product x more) = rows_append (operand_rows o x) (factors_rows o more) ∙ ap (λ (l : List Term). l ++ row_terms (factors_rows o more)) (operand_terms o x) ∙ sym (factors_terms o (held_operand x) more)

summands_terms : (o : ℕ) (c : Held) (x : Summands) → calculation_terms (held_summands c x) ≡ calculation_terms c ++ row_terms (summands_rows o x)
unfolding summands_rows held_summands term_of before
summands_terms o c no_summand = sym (append-nil (calculation_terms c))
summands_terms o c (plus s x more) =
    summands_terms o (added c (held_product x)) more
    ∙ in_line (calculation_terms c) (calculation_terms (held_product x)) (row_terms (summands_rows o more)) (Term.Part Operation.Add)
    ∙ ap (λ (l : List Term). calculation_terms c ++ (l ++ (Term.Part Operation.Add ∷ row_terms (summands_rows o more)))) (sym (product_terms o x))
    ∙ ap (λ (l : List Term). calculation_terms c ++ l) (sym (rows_append (product_rows o x) (a_term 3 0 s.start o ∷ summands_rows o more)))
summands_terms o c (minus s x more) =
    summands_terms o (less_by c (held_product x)) more
    ∙ in_line (calculation_terms c) (calculation_terms (held_product x)) (row_terms (summands_rows o more)) (Term.Part Operation.Subtract)
    ∙ ap (λ (l : List Term). calculation_terms c ++ (l ++ (Term.Part Operation.Subtract ∷ row_terms (summands_rows o more)))) (sym (product_terms o x))
    ∙ ap (λ (l : List Term). calculation_terms c ++ l) (sym (rows_append (product_rows o x) (a_term 4 0 s.start o ∷ summands_rows o more)))

pub terms_of_calculation : (x : Calculation) → row_terms (calculation_rows x) ≡ calculation_terms (held_calculation x)
unfolding calculation_rows
terms_of_calculation (sum x more) =
    rows_append (product_rows (start_of_product x) x) (summands_rows (start_of_product x) more)
    ∙ ap (λ (l : List Term). l ++ row_terms (summands_rows (start_of_product x) more)) (product_terms (start_of_product x) x)
    ∙ sym (summands_terms (start_of_product x) (held_product x) more)

-- ---- the last term of an item

-- parts of a calculation
data Parts : List TermRow → Type 0 where
  no_parts : Parts []
  next_part : {r : TermRow} {A : List TermRow} → ltb r.tag 7 ≡ true → Parts A → Parts (r ∷ A)

parts_both : {A B : List TermRow} → Parts A → Parts B → Parts (A ++ B)
parts_both no_parts b = b
parts_both (next_part e a) b = next_part e (parts_both a b)

primary_parts : (o : ℕ) (x : Primary) → Parts (primary_rows o x)
unfolding primary_rows
primary_parts o (number n) = next_part refl no_parts
primary_parts o (variable x) = next_part refl no_parts

operand_parts : (o : ℕ) (x : Operand) → Parts (operand_rows o x)
unfolding operand_rows
operand_parts o (plain x) = primary_parts o x
operand_parts o (opposite s x) = parts_both (primary_parts o x) (next_part refl no_parts)

factors_parts : (o : ℕ) (x : Factors) → Parts (factors_rows o x)
unfolding factors_rows
factors_parts o no_factor = no_parts
factors_parts o (times s x more) = parts_both (operand_parts o x) (next_part refl (factors_parts o more))

product_parts : (o : ℕ) (x : Product) → Parts (product_rows o x)
unfolding product_rows
product_parts o (product x more) = parts_both (operand_parts o x) (factors_parts o more)

summands_parts : (o : ℕ) (x : Summands) → Parts (summands_rows o x)
unfolding summands_rows
summands_parts o no_summand = no_parts
summands_parts o (plus s x more) = parts_both (product_parts o x) (next_part refl (summands_parts o more))
summands_parts o (minus s x more) = parts_both (product_parts o x) (next_part refl (summands_parts o more))

calculation_parts : (x : Calculation) → Parts (calculation_rows x)
unfolding calculation_rows
calculation_parts (sum x more) = parts_both (product_parts (start_of_product x) x) (summands_parts (start_of_product x) more)

-- a part that ends an item
abbrev single_of : Term → Term
single_of (Term.Part o) = Term.Single o
single_of (Term.Single o) = Term.Single o
single_of Term.All = Term.All
single_of Term.Range = Term.Range
single_of Term.From = Term.From
single_of Term.UpTo = Term.UpTo
single_of Term.Or = Term.Or
single_of Term.Except = Term.Except
single_of Term.And = Term.And
single_of (Term.Compare k) = Term.Compare k
single_of Term.Bad = Term.Bad

unfoldable last_single : List Term → List Term
last_single [] = []
last_single (t ∷ []) = single_of t ∷ []
last_single (t ∷ u ∷ l) = t ∷ last_single (u ∷ l)

single_end : (l : List Term) (o : Operation) → last_single (l ++ (Term.Part o ∷ [])) ≡ l ++ (Term.Single o ∷ [])
unfolding last_single
single_end [] o = refl
single_end (t ∷ []) o = refl
single_end (t ∷ u ∷ l) o = ap {B = List Term} (λ q. t ∷ q) (single_end (u ∷ l) o)

single_term : (tag low : ℕ) → term_of (tag + 32) low 0 ≡ Term.Single (operation_of tag low 0)
unfolding term_of
single_term tag low =
    let p : ltb (tag + 32) 7 ≡ false = le-ltb (tag + 32) 7 (omega arith)
    in let q : ltb (tag + 32) 32 ≡ false = le-ltb (tag + 32) 32 (omega arith)
    in let s : tag + 32 - 32 ≡ tag = omega arith
    in rw (p, q, s) refl

part_term : (tag low : ℕ) → ltb tag 7 ≡ true → single_of (term_of tag low 0) ≡ Term.Single (operation_of tag low 0)
unfolding term_of
part_term tag low e = ap single_of (ap (λ (b : Bool). cond b (Term.Part (operation_of tag low 0)) (cond (ltb tag 32) (sign_of tag) (Term.Single (operation_of (tag - 32) low 0)))) e)

marked_term : (r : TermRow) → ltb r.tag 7 ≡ true → row_term (marked r) ≡ single_of (row_term r)
marked_term r e =
    let h : r.tag < 7 = ltb-true r.tag 7 e
    in let a : marked_tag r.tag ≡ r.tag + 32 = ap (λ (b : Bool). cond b (r.tag + 32) r.tag) (lt-ltb r.tag 32 (omega arith))
    in ap (λ (b : Bool). term_of (marked_tag r.tag) (cond b r.place r.value) 0) (use_marked r.tag)
    ∙ ap (λ (k : ℕ). term_of k (cond (is_use r.tag) r.place r.value) 0) a
    ∙ single_term r.tag (cond (is_use r.tag) r.place r.value)
    ∙ sym (part_term r.tag (cond (is_use r.tag) r.place r.value) e)

marked_terms : (A : List TermRow) → Parts A → row_terms (last_marked A) ≡ last_single (row_terms A)
unfolding last_marked last_single
marked_terms [] no_parts = refl
marked_terms (r ∷ []) (next_part e a) = ap {B = List Term} (λ t. t ∷ []) (marked_term r e)
marked_terms (r ∷ q ∷ A) (next_part e a) = ap {B = List Term} (λ l. row_term r ∷ l) (marked_terms (q ∷ A) a)

-- ---- sets

abbrev pub held_item : Item → HeldSet
held_item (everything s) = whole-line
held_item (only a) = single (held_calculation a)
held_item (between a s b) = within (held_calculation a) (held_calculation b)
held_item (from a s) = onward (held_calculation a)
held_item (up_to_bound s b) = up_to (held_calculation b)

-- alternatives from the left: `acc` joins the first one to those before
unfoldable pub held_set : {p : SetPart} {d : ℕ} → Choices p d → (HeldSet → HeldSet) → HeldSet
held_set (item a) acc = acc (held_item a)
held_set (item_but_item a s b) acc = acc (without (held_item a) (held_item b))
held_set (item_but_set depth a s opens b closes) acc = acc (without (held_item a) (held_set b (λ y. y)))
held_set (last_choice a) acc = held_set a acc
held_set (or_choices a s b) acc = held_set b (λ y. either (held_set a acc) y)

-- one or two calculations and a sign
one_terms : (a : Calculation) (r : TermRow) → row_terms (calculation_rows a ++ r ∷ []) ≡ calculation_terms (held_calculation a) ++ (row_term r ∷ [])
one_terms a r = rows_append (calculation_rows a) (r ∷ []) ∙ ap (λ (l : List Term). l ++ (row_term r ∷ [])) (terms_of_calculation a)

two_terms : (a b : Calculation) (r : TermRow) (j : List TermRow) → row_terms (calculation_rows a ++ (calculation_rows b ++ r ∷ j)) ≡ ((calculation_terms (held_calculation a) ++ calculation_terms (held_calculation b)) ++ (row_term r ∷ [])) ++ row_terms j
two_terms a b r j =
    rows_append (calculation_rows a) (calculation_rows b ++ r ∷ j)
    ∙ ap₂ (λ (l m : List Term). l ++ m) (terms_of_calculation a) (rows_append (calculation_rows b) (r ∷ j) ∙ ap (λ (l : List Term). l ++ (row_term r ∷ row_terms j)) (terms_of_calculation b))
    ∙ sym (in_line (calculation_terms (held_calculation a)) (calculation_terms (held_calculation b)) (row_terms j) (row_term r))

item_terms : (x : Item) → row_terms (item_rows x) ≡ set_terms (held_item x)
unfolding item_rows set_terms term_of
item_terms (everything s) = refl
item_terms (only a) =
    marked_terms (calculation_rows a) (calculation_parts a) ∙ ap last_single (terms_of_calculation a) ∙ single_end (before (held_calculation a)) (last_sign (held_calculation a))
item_terms (between a s b) = two_terms a b (a_term 8 0 s.start 0) [] ∙ append-nil ((calculation_terms (held_calculation a) ++ calculation_terms (held_calculation b)) ++ (Term.Range ∷ []))
item_terms (from a s) = one_terms a (a_term 9 0 s.start 0)
item_terms (up_to_bound s b) = one_terms b (a_term 10 0 s.start 0)

-- two lists of rows, a sign, and what joins them to those before
but_terms : (A B J : List TermRow) (r : TermRow) (u v : List Term) → row_terms A ≡ u → row_terms B ≡ v → ((u ++ v) ++ (row_term r ∷ [])) ++ row_terms J ≡ row_terms (A ++ (B ++ r ∷ J))
but_terms A B J r u v e f =
    in_line u v (row_terms J) (row_term r)
    ∙ ap₂ (λ (l m : List Term). l ++ (m ++ (row_term r ∷ row_terms J))) (sym e) (sym f)
    ∙ ap (λ (l : List Term). row_terms A ++ l) (sym (rows_append B (r ∷ J)))
    ∙ sym (rows_append A (B ++ r ∷ J))

-- a join after what stands before, and once more
onward_terms : (P a y : List Term) (t : Term) (whole : List Term) → whole ≡ P ++ a → (whole ++ y) ++ (t ∷ []) ≡ (P ++ a) ++ (y ++ (t ∷ []))
onward_terms P a y t whole e = append_assoc whole y (t ∷ []) ∙ ap (λ (l : List Term). l ++ (y ++ (t ∷ []))) e

joined_terms : (P : List Term) (A B : List TermRow) → (P ++ row_terms A) ++ row_terms B ≡ P ++ row_terms (A ++ B)
joined_terms P A B = append_assoc P (row_terms A) (row_terms B) ∙ ap (λ (l : List Term). P ++ l) (sym (rows_append A B))

set_from : {p : SetPart} {d : ℕ} (x : Choices p d) (acc : HeldSet → HeldSet) (P : List Term) (J : List TermRow) → ((y : HeldSet) → set_terms (acc y) ≡ P ++ (set_terms y ++ row_terms J)) → set_terms (held_set x acc) ≡ P ++ row_terms (set_rows x J)
unfolding held_set set_rows set_terms term_of
set_from (item a) acc P J h = h (held_item a) ∙ ap (λ (l : List Term). P ++ l) (ap (λ (l : List Term). l ++ row_terms J) (sym (item_terms a)) ∙ sym (rows_append (item_rows a) J))
set_from (item_but_item a s b) acc P J h =
    h (without (held_item a) (held_item b)) ∙ ap (λ (l : List Term). P ++ l) (but_terms (item_rows a) (item_rows b) J (a_term 12 0 s.start 0) (set_terms (held_item a)) (set_terms (held_item b)) (item_terms a) (item_terms b))
set_from (item_but_set depth a s opens b closes) acc P J h =
    h (without (held_item a) (held_set b (λ y. y)))
    ∙ ap (λ (l : List Term). P ++ l)
    (but_terms (item_rows a) (set_rows b []) J (a_term 12 0 s.start 0) (set_terms (held_item a)) (set_terms (held_set b (λ y. y))) (item_terms a) (sym (set_from b (λ y. y) [] [] (λ y. sym (append-nil (set_terms y))))))
set_from (last_choice a) acc P J h = set_from a acc P J h
set_from (or_choices a s b) acc P J h =
    set_from b (λ y. either (held_set a acc) y) (P ++ row_terms (set_rows a J)) (a_term 11 0 s.start 0 ∷ []) (λ y. onward_terms P (row_terms (set_rows a J)) (set_terms y) Term.Or (set_terms (held_set a acc)) (set_from a acc P J h))
    ∙ joined_terms P (set_rows a J) (set_rows b (a_term 11 0 s.start 0 ∷ []))

-- the terms that are stored of a set hold it
pub set_terms_lem : {p : SetPart} {d : ℕ} (x : Choices p d) → row_terms (set_rows x []) ≡ set_terms (held_set x (λ y. y))
set_terms_lem x = sym (set_from x (λ y. y) [] [] (λ y. sym (append-nil (set_terms y))))

-- ---- counts

abbrev pub held_counts : Counts → Repeats
held_counts (exactly n) = exact (held_calculation n)
held_counts (at_least_count a s) = on_from (held_calculation a)
held_counts (at_most s b) = at-most-so (held_calculation b)
held_counts (span a s b) = spanning (held_calculation a) (held_calculation b)

pub counts_terms : (x : Counts) → row_terms (counts_rows x) ≡ repeat_terms (held_counts x)
unfolding counts_rows repeat_terms term_of
counts_terms (exactly n) = terms_of_calculation n
counts_terms (at_least_count a s) = one_terms a (a_term 9 0 s.start 0)
counts_terms (at_most s b) = one_terms b (a_term 10 0 s.start 0)
counts_terms (span a s b) = two_terms a b (a_term 8 0 s.start 0) [] ∙ append-nil ((calculation_terms (held_calculation a) ++ calculation_terms (held_calculation b)) ++ (Term.Range ∷ []))

-- ---- conditions

abbrev pub held_sign : Sign-of → Comparison
held_sign equal = Comparison.Equal
held_sign unequal = Comparison.Unequal
held_sign less = Comparison.Less
held_sign at_most_as = Comparison.AtMost
held_sign greater = Comparison.Greater
held_sign at_least_as = Comparison.AtLeast

sign_term : (c : Sign-of) (p : ℕ) → row_term (a_term (tag_of c) 0 p 0) ≡ Term.Compare (held_sign c)
unfolding term_of
sign_term equal p = refl
sign_term unequal p = refl
sign_term less p = refl
sign_term at_most_as p = refl
sign_term greater p = refl
sign_term at_least_as p = refl

-- `acc` as for sets
unfoldable pub held_tests : {p : TestPart} {d : ℕ} → Tests p d → (HeldCondition → HeldCondition) → HeldCondition
held_tests (compare a c s b) acc = acc (comparing (held_sign c) (held_calculation a) (held_calculation b))
held_tests (test_group depth opens a closes) acc = acc (held_tests a (λ y. y))
held_tests (one_test a) acc = held_tests a acc
held_tests (all_of a s b) acc = held_tests b (λ y. all_hold (held_tests a acc) y)
held_tests (any_of a s b) acc = held_tests b (λ y. one-Holds (held_tests a acc) y)
held_tests (last_conjunct a) acc = held_tests a acc
held_tests (and_conjuncts a s b) acc = held_tests b (λ y. all_hold (held_tests a acc) y)
held_tests (last_disjunct a) acc = held_tests a acc
held_tests (or_disjuncts a s b) acc = held_tests b (λ y. one-Holds (held_tests a acc) y)

tests_from : {p : TestPart} {d : ℕ} (x : Tests p d) (acc : HeldCondition → HeldCondition) (P : List Term) (J : List TermRow) → ((y : HeldCondition) → condition_terms (acc y) ≡ P ++ (condition_terms y ++ row_terms J))
    → condition_terms (held_tests x acc) ≡ P ++ row_terms (tests_rows x J)
unfolding held_tests tests_rows condition_terms term_of
tests_from (compare a c s b) acc P J h =
    h (comparing (held_sign c) (held_calculation a) (held_calculation b))
    ∙ ap (λ (t : Term). P ++ (((calculation_terms (held_calculation a) ++ calculation_terms (held_calculation b)) ++ (t ∷ [])) ++ row_terms J)) (sym (sign_term c s.start))
    ∙ ap (λ (l : List Term). P ++ l) (sym (two_terms a b (a_term (tag_of c) 0 s.start 0) J))
tests_from (test_group depth opens a closes) acc P J h =
    h (held_tests a (λ y. y))
    ∙ ap (λ (l : List Term). P ++ l) (ap (λ (l : List Term). l ++ row_terms J) (tests_from a (λ y. y) [] [] (λ y. sym (append-nil (condition_terms y)))) ∙ sym (rows_append (tests_rows a []) J))
tests_from (one_test a) acc P J h = tests_from a acc P J h
tests_from (all_of a s b) acc P J h =
    tests_from b (λ y. all_hold (held_tests a acc) y) (P ++ row_terms (tests_rows a J)) (a_term 13 0 s.start 0 ∷ []) (λ y. onward_terms P (row_terms (tests_rows a J)) (condition_terms y) Term.And (condition_terms (held_tests a acc)) (tests_from a acc P J h))
    ∙ joined_terms P (tests_rows a J) (tests_rows b (a_term 13 0 s.start 0 ∷ []))
tests_from (any_of a s b) acc P J h =
    tests_from b (λ y. one-Holds (held_tests a acc) y) (P ++ row_terms (tests_rows a J)) (a_term 11 0 s.start 0 ∷ []) (λ y. onward_terms P (row_terms (tests_rows a J)) (condition_terms y) Term.Or (condition_terms (held_tests a acc)) (tests_from a acc P J h))
    ∙ joined_terms P (tests_rows a J) (tests_rows b (a_term 11 0 s.start 0 ∷ []))
tests_from (last_conjunct a) acc P J h = tests_from a acc P J h
tests_from (and_conjuncts a s b) acc P J h =
    tests_from b (λ y. all_hold (held_tests a acc) y) (P ++ row_terms (tests_rows a J)) (a_term 13 0 s.start 0 ∷ []) (λ y. onward_terms P (row_terms (tests_rows a J)) (condition_terms y) Term.And (condition_terms (held_tests a acc)) (tests_from a acc P J h))
    ∙ joined_terms P (tests_rows a J) (tests_rows b (a_term 13 0 s.start 0 ∷ []))
tests_from (last_disjunct a) acc P J h = tests_from a acc P J h
tests_from (or_disjuncts a s b) acc P J h =
    tests_from b (λ y. one-Holds (held_tests a acc) y) (P ++ row_terms (tests_rows a J)) (a_term 11 0 s.start 0 ∷ []) (λ y. onward_terms P (row_terms (tests_rows a J)) (condition_terms y) Term.Or (condition_terms (held_tests a acc)) (tests_from a acc P J h))
    ∙ joined_terms P (tests_rows a J) (tests_rows b (a_term 11 0 s.start 0 ∷ []))

-- the terms that are stored of a condition hold it
pub tests_terms : {p : TestPart} {d : ℕ} (x : Tests p d) → row_terms (tests_rows x []) ≡ condition_terms (held_tests x (λ y. y))
tests_terms x = sym (tests_from x (λ y. y) [] [] (λ y. sym (append-nil (condition_terms y))))
