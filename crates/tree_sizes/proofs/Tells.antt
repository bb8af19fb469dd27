-- The rows of a formula tell its terms, in their order: its numbers, the uses of variables, and signs.
-- Assumes nothing.
use Prim.Native.Nat.{ℕ, ◌/◌}
use mathlib.Core.Path.{◌≡◌, refl, sym, ap, subst}
use mathlib.Core.Logic.{◌⊎◌, inl, inr}
use mathlib.Core.Bool.{false}
use mathlib.Core.List.{List, [], ◌∷◌, ◌++◌, append-nil}
use lib.Dec.{eqb}
use Rattle.text_tokens.specs.Numbers.{capped}
use Rattle.text_store.specs.Words.{is_use}
use Rattle.text_store.specs.Store.{marked_tag}
use Rattle.term_words.specs.Words.{term_of}
use Rattle.text_shapes.specs.TermShapes.{rename_term}
use Rattle.text_wellformed.proofs.TermsKnown.{shown_term}
use Rattle.tree.specs.Lexemes.{Sign, Name, Number}
use Rattle.tree.specs.Tree.{Primary, number, variable, Operand, plain, opposite, Factors, no_factor, times, Product, product, Summands, no_summand, plus, minus, Calculation, sum, Item, everything, only, between, from, up_to_bound, SetPart, Choices, item, item_but_item, item_but_set, last_choice, or_choices, Counts, exactly, at_least_count, at_most, span, Comparison, equal, unequal, less, at_most_as, greater, at_least_as, TestPart, Tests, compare, test_group, one_test, all_of, any_of, last_conjunct, and_conjuncts, last_disjunct, or_disjuncts}
use Rattle.tree_form.specs.Stored.{start_of_product, tag_of}
use Rattle.tree_meaning.specs.Pieces.{Term, a_number, a_use, a_sign, primary_terms, operand_terms, factor_terms, product_terms, summand_terms, terms_of_calculation, Component, whole_number, joined_by, item_parts, set_parts, counts_parts, tests_parts, terms_of}
use Rattle.tree_store.proofs.Uses.{terms_append}
use Rattle.tree_store.proofs.Rows.{TermRow, a_term, last_marked, primary_rows, operand_rows, factors_rows, product_rows, summands_rows, calculation_rows, item_rows, set_rows, counts_rows, tests_rows}

-- a tag of a sign: no use's, and the table's words of it say it again
pub record SignTag (tag : ℕ) : Type 0 where
  pub no_use : is_use tag ≡ false
  pub shown : (g : ℕ → ℕ) → shown_term (tag ∷ 0 ∷ 0 / 4294967296 ∷ []) ≡ rename_term g (term_of tag 0 0)

-- these rows have these terms
pub data Tells : List TermRow → List Term → Type 0 where
  told : Tells [] []
  a_number_row : {r : TermRow} {A : List TermRow} {n : Number} {l : List Term} → (r.tag ≡ 1) ⊎ (r.tag ≡ 33) → r.value ≡ capped n.value → r.place ≡ n.start → Tells A l → Tells (r ∷ A) (a_number n ∷ l)
  a_use_row : {r : TermRow} {A : List TermRow} {x : Name} {l : List Term} → (r.tag ≡ 2) ⊎ (r.tag ≡ 34) → r.place ≡ x.start → Tells A l → Tells (r ∷ A) (a_use x ∷ l)
  a_sign_row : {r : TermRow} {A : List TermRow} {l : List Term} → SignTag r.tag → r.value ≡ 0 → Tells A l → Tells (r ∷ A) l
  skipped : {s : Sign} {A : List TermRow} {l : List Term} → Tells A l → Tells A (a_sign s ∷ l)

-- rows and those after them
pub told_both : {A B : List TermRow} {l m : List Term} → Tells A l → Tells B m → Tells (A ++ B) (l ++ m)
told_both told b = b
told_both (a_number_row t v p a) b = a_number_row t v p (told_both a b)
told_both (a_use_row t p a) b = a_use_row t p (told_both a b)
told_both (a_sign_row s v a) b = a_sign_row s v (told_both a b)
told_both (skipped a) b = skipped (told_both a b)

-- with signs at the end
quiet : {A B : List TermRow} {l : List Term} → Tells A l → Tells B [] → Tells (A ++ B) l
quiet {A} {B} {l} a b = subst (λ (m : List Term). Tells (A ++ B) m) (append-nil l) (told_both a b)

-- ---- calculations

-- the tags of `+ - *` and of a minus before an operand
pub data Arithmetic (tag : ℕ) : Type 0 where
  adding : tag ≡ 3 → Arithmetic tag
  subtracting : tag ≡ 4 → Arithmetic tag
  multiplying : tag ≡ 5 → Arithmetic tag
  negating : tag ≡ 6 → Arithmetic tag

arithmetic_sign : {tag : ℕ} → Arithmetic tag → SignTag tag
unfolding term_of
arithmetic_sign (adding e) = subst SignTag (sym e) (record { no_use = refl; shown = λ g. refl })
arithmetic_sign (subtracting e) = subst SignTag (sym e) (record { no_use = refl; shown = λ g. refl })
arithmetic_sign (multiplying e) = subst SignTag (sym e) (record { no_use = refl; shown = λ g. refl })
arithmetic_sign (negating e) = subst SignTag (sym e) (record { no_use = refl; shown = λ g. refl })

-- the same as the last of an item
marked_sign : {tag : ℕ} → Arithmetic tag → SignTag (marked_tag tag)
unfolding term_of
marked_sign (adding e) = subst SignTag (sym (ap marked_tag e)) (record { no_use = refl; shown = λ g. refl })
marked_sign (subtracting e) = subst SignTag (sym (ap marked_tag e)) (record { no_use = refl; shown = λ g. refl })
marked_sign (multiplying e) = subst SignTag (sym (ap marked_tag e)) (record { no_use = refl; shown = λ g. refl })
marked_sign (negating e) = subst SignTag (sym (ap marked_tag e)) (record { no_use = refl; shown = λ g. refl })

-- rows of a calculation
pub data Reckons : List TermRow → List Term → Type 0 where
  counted_none : Reckons [] []
  counted_number : {r : TermRow} {A : List TermRow} {n : Number} {l : List Term} → r.tag ≡ 1 → r.value ≡ capped n.value → r.place ≡ n.start → Reckons A l → Reckons (r ∷ A) (a_number n ∷ l)
  counted_use : {r : TermRow} {A : List TermRow} {x : Name} {l : List Term} → r.tag ≡ 2 → r.place ≡ x.start → Reckons A l → Reckons (r ∷ A) (a_use x ∷ l)
  counted_sign : {r : TermRow} {A : List TermRow} {l : List Term} → Arithmetic r.tag → r.value ≡ 0 → Reckons A l → Reckons (r ∷ A) l
  counted_skip : {s : Sign} {A : List TermRow} {l : List Term} → Reckons A l → Reckons A (a_sign s ∷ l)

counted_both : {A B : List TermRow} {l m : List Term} → Reckons A l → Reckons B m → Reckons (A ++ B) (l ++ m)
counted_both counted_none b = b
counted_both (counted_number t v p a) b = counted_number t v p (counted_both a b)
counted_both (counted_use t p a) b = counted_use t p (counted_both a b)
counted_both (counted_sign t v a) b = counted_sign t v (counted_both a b)
counted_both (counted_skip a) b = counted_skip (counted_both a b)

counted_quiet : {A B : List TermRow} {l : List Term} → Reckons A l → Reckons B [] → Reckons (A ++ B) l
counted_quiet {A} {B} {l} a b = subst (λ (m : List Term). Reckons (A ++ B) m) (append-nil l) (counted_both a b)

counted_tells : {A : List TermRow} {l : List Term} → Reckons A l → Tells A l
counted_tells counted_none = told
counted_tells (counted_number t v p a) = a_number_row (inl t) v p (counted_tells a)
counted_tells (counted_use t p a) = a_use_row (inl t) p (counted_tells a)
counted_tells (counted_sign t v a) = a_sign_row (arithmetic_sign t) v (counted_tells a)
counted_tells (counted_skip a) = skipped (counted_tells a)

-- the last is marked
marked_tells : (A : List TermRow) {l : List Term} → Reckons A l → Tells (last_marked A) l
unfolding last_marked
marked_tells [] counted_none = told
marked_tells [] (counted_skip a) = skipped (marked_tells [] a)
marked_tells (r ∷ []) (counted_number t v p a) = a_number_row (inr (ap marked_tag t)) v p (counted_tells a)
marked_tells (r ∷ []) (counted_use t p a) = a_use_row (inr (ap marked_tag t)) p (counted_tells a)
marked_tells (r ∷ []) (counted_sign t v a) = a_sign_row (marked_sign t) v (counted_tells a)
marked_tells (r ∷ []) (counted_skip a) = skipped (marked_tells (r ∷ []) a)
marked_tells (r ∷ q ∷ A) (counted_number t v p a) = a_number_row (inl t) v p (marked_tells (q ∷ A) a)
marked_tells (r ∷ q ∷ A) (counted_use t p a) = a_use_row (inl t) p (marked_tells (q ∷ A) a)
marked_tells (r ∷ q ∷ A) (counted_sign t v a) = a_sign_row (arithmetic_sign t) v (marked_tells (q ∷ A) a)
marked_tells (r ∷ q ∷ A) (counted_skip a) = skipped (marked_tells (r ∷ q ∷ A) a)

primary_counts : (o : ℕ) (x : Primary) → Reckons (primary_rows o x) (primary_terms x)
unfolding primary_rows
primary_counts o (number n) = counted_number refl refl refl counted_none
primary_counts o (variable x) = counted_use refl refl counted_none

operand_counts : (o : ℕ) (x : Operand) → Reckons (operand_rows o x) (operand_terms x)
unfolding operand_rows
operand_counts o (plain x) = primary_counts o x
operand_counts o (opposite s x) = counted_skip (counted_quiet (primary_counts o x) (counted_sign (negating refl) refl counted_none))

factors_counts : (o : ℕ) (x : Factors) → Reckons (factors_rows o x) (factor_terms x)
unfolding factors_rows factor_terms
factors_counts o no_factor = counted_none
factors_counts o (times s x more) = counted_skip (counted_both (operand_counts o x) (counted_sign (multiplying refl) refl (factors_counts o more)))

product_counts : (o : ℕ) (x : Product) → Reckons (product_rows o x) (product_terms x)
unfolding product_rows
product_counts o (product x more) = counted_both (operand_counts o x) (factors_counts o more)

summands_counts : (o : ℕ) (x : Summands) → Reckons (summands_rows o x) (summand_terms x)
unfolding summands_rows summand_terms
summands_counts o no_summand = counted_none
summands_counts o (plus s x more) = counted_skip (counted_both (product_counts o x) (counted_sign (adding refl) refl (summands_counts o more)))
summands_counts o (minus s x more) = counted_skip (counted_both (product_counts o x) (counted_sign (subtracting refl) refl (summands_counts o more)))

-- the rows of a calculation
pub calculation_counts : (x : Calculation) → Reckons (calculation_rows x) (terms_of_calculation x)
unfolding calculation_rows
calculation_counts (sum x more) = counted_both (product_counts (start_of_product x) x) (summands_counts (start_of_product x) more)

calculation_tells : (x : Calculation) → Tells (calculation_rows x) (terms_of_calculation x)
calculation_tells x = counted_tells (calculation_counts x)

-- ---- sets, counts and conditions

-- the signs of sets and conditions
sign_all : SignTag 7
unfolding term_of
sign_all = record { no_use = refl; shown = λ g. refl }

sign_range : SignTag 8
unfolding term_of
sign_range = record { no_use = refl; shown = λ g. refl }

sign_from : SignTag 9
unfolding term_of
sign_from = record { no_use = refl; shown = λ g. refl }

sign_up_to : SignTag 10
unfolding term_of
sign_up_to = record { no_use = refl; shown = λ g. refl }

sign_or : SignTag 11
unfolding term_of
sign_or = record { no_use = refl; shown = λ g. refl }

sign_except : SignTag 12
unfolding term_of
sign_except = record { no_use = refl; shown = λ g. refl }

sign_and : SignTag 13
unfolding term_of
sign_and = record { no_use = refl; shown = λ g. refl }

comparison_tag : (c : Comparison) → SignTag (tag_of c)
unfolding term_of
comparison_tag equal = record { no_use = refl; shown = λ g. refl }
comparison_tag unequal = record { no_use = refl; shown = λ g. refl }
comparison_tag less = record { no_use = refl; shown = λ g. refl }
comparison_tag at_most_as = record { no_use = refl; shown = λ g. refl }
comparison_tag greater = record { no_use = refl; shown = λ g. refl }
comparison_tag at_least_as = record { no_use = refl; shown = λ g. refl }

-- a calculation, and what comes after it
first_tells : (a : Calculation) {B : List TermRow} (m : List Component) → Tells B (terms_of m) → Tells (calculation_rows a ++ B) (terms_of (whole_number a ∷ m))
unfolding terms_of
first_tells a m b = told_both (calculation_tells a) b

parted : {A B : List TermRow} (l m : List Component) → Tells A (terms_of l) → Tells B (terms_of m) → Tells (A ++ B) (terms_of (l ++ m))
parted {A} {B} l m a b = subst (Tells (A ++ B)) (sym (terms_append l m)) (told_both a b)

-- a sign in front
after_sign : {A : List TermRow} (s : Sign) (m : List Component) → Tells A (terms_of m) → Tells A (terms_of (joined_by s ∷ m))
unfolding terms_of
after_sign s m a = skipped a

-- two calculations, a sign that is stored behind them, and then signs
two_tells : (a b : Calculation) (s : Sign) (r : TermRow) {J : List TermRow} → SignTag r.tag → r.value ≡ 0 → Tells J [] → Tells (calculation_rows a ++ (calculation_rows b ++ r ∷ J)) (terms_of (whole_number a ∷ joined_by s ∷ whole_number b ∷ []))
unfolding terms_of
two_tells a b s r q v j = first_tells a (joined_by s ∷ whole_number b ∷ []) (skipped (first_tells b [] (a_sign_row q v j)))

item_tells : (x : Item) → Tells (item_rows x) (terms_of (item_parts x))
unfolding item_rows terms_of
item_tells (everything s) = skipped (a_sign_row sign_all refl told)
item_tells (only a) = subst (Tells (last_marked (calculation_rows a))) (sym (append-nil (terms_of_calculation a))) (marked_tells (calculation_rows a) (calculation_counts a))
item_tells (between a s b) = two_tells a b s (a_term 8 0 s.start 0) sign_range refl told
item_tells (from a s) = first_tells a (joined_by s ∷ []) (skipped (a_sign_row sign_from refl told))
item_tells (up_to_bound s b) = skipped (first_tells b [] (a_sign_row sign_up_to refl told))

-- of a set, joined by signs
pub set_tells : {k : SetPart} {d : ℕ} (x : Choices k d) {J : List TermRow} → Tells J [] → Tells (set_rows x J) (terms_of (set_parts x))
unfolding set_rows set_parts
set_tells (item a) j = quiet (item_tells a) j
set_tells (item_but_item a s b) j = parted (item_parts a) (joined_by s ∷ item_parts b) (item_tells a) (after_sign s (item_parts b) (quiet (item_tells b) (a_sign_row sign_except refl j)))
set_tells (item_but_set depth a s opens b closes) j =
    parted (item_parts a) (joined_by s ∷ set_parts b) (item_tells a) (after_sign s (set_parts b) (quiet (set_tells b told) (a_sign_row sign_except refl j)))
set_tells (last_choice a) j = set_tells a j
set_tells (or_choices a s b) j = parted (set_parts a) (joined_by s ∷ set_parts b) (set_tells a j) (after_sign s (set_parts b) (set_tells b (a_sign_row sign_or refl told)))

-- of counts
pub counts_tells : (x : Counts) → Tells (counts_rows x) (terms_of (counts_parts x))
unfolding counts_rows terms_of
counts_tells (exactly n) = subst (Tells (calculation_rows n)) (sym (append-nil (terms_of_calculation n))) (calculation_tells n)
counts_tells (at_least_count a s) = first_tells a (joined_by s ∷ []) (skipped (a_sign_row sign_from refl told))
counts_tells (at_most s b) = skipped (first_tells b [] (a_sign_row sign_up_to refl told))
counts_tells (span a s b) = two_tells a b s (a_term 8 0 s.start 0) sign_range refl told

-- of a condition, joined by signs
pub tests_tells : {k : TestPart} {d : ℕ} (x : Tests k d) {J : List TermRow} → Tells J [] → Tells (tests_rows x J) (terms_of (tests_parts x))
unfolding tests_rows tests_parts
tests_tells (compare a c s b) j = two_tells a b s (a_term (tag_of c) 0 s.start 0) (comparison_tag c) refl j
tests_tells (test_group depth opens a closes) j = quiet (tests_tells a told) j
tests_tells (one_test a) j = tests_tells a j
tests_tells (all_of a s b) j = parted (tests_parts a) (joined_by s ∷ tests_parts b) (tests_tells a j) (after_sign s (tests_parts b) (tests_tells b (a_sign_row sign_and refl told)))
tests_tells (any_of a s b) j = parted (tests_parts a) (joined_by s ∷ tests_parts b) (tests_tells a j) (after_sign s (tests_parts b) (tests_tells b (a_sign_row sign_or refl told)))
tests_tells (last_conjunct a) j = tests_tells a j
tests_tells (and_conjuncts a s b) j = parted (tests_parts a) (joined_by s ∷ tests_parts b) (tests_tells a j) (after_sign s (tests_parts b) (tests_tells b (a_sign_row sign_and refl told)))
tests_tells (last_disjunct a) j = tests_tells a j
tests_tells (or_disjuncts a s b) j = parted (tests_parts a) (joined_by s ∷ tests_parts b) (tests_tells a j) (after_sign s (tests_parts b) (tests_tells b (a_sign_row sign_or refl told)))
