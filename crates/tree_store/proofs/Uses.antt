-- The uses of variables among the rows of a formula are those of its terms, in their order.
-- Assumes nothing.
use Prim.Native.Nat.{ℕ, ◌+◌, ◌≤◌, ◌<◌}
use mathlib.Core.Path.{◌≡◌, refl, sym, ap, ap₂, subst, ◌∙◌}
use mathlib.Core.Logic.{⊎_elim}
use mathlib.Core.Bool.{true, false, ◌||◌}
use mathlib.Core.List.{List, [], ◌∷◌, ◌++◌, append-nil, append_assoc}
use native.Mathlib.Omega.{arith}
use borrow.Author.Tests.{ltb-true, eqb-true, eqb-false, ne_eqb}
use lib.Dec.{ltb, eqb}
use lib.ListN.{length}
use Rattle.basis.proofs.Booleans.{which}
use Rattle.text_names.specs.Names.{name_at}
use Rattle.text_store.specs.Store.{marked_tag}
use Rattle.text_store.specs.Words.{is_use}
use Rattle.tree.specs.Lexemes.{Sign, Name, Lexeme, sign, word}
use Rattle.tree.specs.Tree.{Primary, number, variable, Operand, plain, opposite, Factors, no_factor, times, Product, product, Summands, no_summand, plus, minus, Calculation, sum, Item, everything, only, between, from, up_to_bound, SetPart, Choices, item, item_but_item, item_but_set, last_choice, or_choices, Counts, exactly, at_least_count, at_most, span, Comparison, equal, unequal, less, at_most_as, greater, at_least_as, TestPart, Tests, compare, test_group, one_test, all_of, any_of, last_conjunct, and_conjuncts, last_disjunct, or_disjuncts}
use Rattle.tree.specs.Spelling.{comparison_sign, spell_primary, spell_operand, spell_factors, spell_product, spell_summands, spell_calculation, spell_item, spell_set, spell_counts, spell_tests}
use Rattle.text_tokens.specs.declared.Kind.{Kind}
use Rattle.tree_form.specs.Stored.{start_of_product, tag_of}
use Rattle.tree_meaning.specs.Pieces.{Term, a_number, a_use, a_sign, primary_terms, operand_terms, factor_terms, product_terms, summand_terms, terms_of_calculation, Component, whole_number, joined_by, item_parts, set_parts, counts_parts, tests_parts, terms_of, uses_in}
use Rattle.tree_store.proofs.Rows.{TermRow, a_term, last_marked, primary_rows, operand_rows, factors_rows, product_rows, summands_rows, calculation_rows, item_rows, set_rows, counts_rows, tests_rows}
use Rattle.tree_store.proofs.Standing.{Standing, past, shown, within, after_operand, after_product, after_calculation, after_item, after_set, after_tests}

-- a name stands in the text where it says
pub record Here (xs : List ℕ) (x : Name) : Type 0 where
  pub letters_are : name_at xs x.start ≡ x.letters
  pub inside : x.start ≤ length xs

pub here : {xs : List ℕ} {p : ℕ} {x : Name} {ls : List Lexeme} → Standing xs p (word x ∷ ls) → Here xs x
here h = record { letters_are = shown h; inside = within h }

-- these rows have these uses
pub data UsesAre (xs : List ℕ) : List TermRow → List Name → Type 0 where
  no_more : UsesAre xs [] []
  used : {r : TermRow} {A : List TermRow} {x : Name} {us : List Name} → is_use r.tag ≡ true → r.place ≡ x.start → Here xs x → UsesAre xs A us → UsesAre xs (r ∷ A) (x ∷ us)
  other : {r : TermRow} {A : List TermRow} {us : List Name} → is_use r.tag ≡ false → UsesAre xs A us → UsesAre xs (r ∷ A) us

joined : {xs : List ℕ} {A B : List TermRow} {us vs : List Name} → UsesAre xs A us → UsesAre xs B vs → UsesAre xs (A ++ B) (us ++ vs)
joined no_more b = b
joined (used t p h a) b = used t p h (joined a b)
joined (other t a) b = other t (joined a b)

-- without uses at the end
quiet : {xs : List ℕ} {A B : List TermRow} {us : List Name} → UsesAre xs A us → UsesAre xs B [] → UsesAre xs (A ++ B) us
quiet {xs} {A} {B} {us} a b = subst (λ (l : List Name). UsesAre xs (A ++ B) l) (append-nil us) (joined a b)

pub use_marked : (tag : ℕ) → is_use (marked_tag tag) ≡ is_use tag
use_marked tag =
    ⊎_elim
    (λ (z : ltb tag 32 ≡ true). rw z (small (ltb-true tag 32 z)))
    (λ (z : ltb tag 32 ≡ false). rw z refl)
    (which (ltb tag 32))
  where
    small : tag < 32 → is_use (tag + 32) ≡ is_use tag
    small h =
        ⊎_elim
        (λ (z : eqb tag 2 ≡ true). let e : tag ≡ 2 = eqb-true tag 2 z in rw e refl)
        (λ (z : eqb tag 2 ≡ false).
        let n : tag ≡ 2 → ⊥ = eqb-false tag 2 z
        in ap₂ ◌||◌ (ne_eqb (tag + 32) 2 (λ e. omega arith)) (ne_eqb (tag + 32) 34 (λ e. n (omega arith)))
        ∙ sym (ap₂ ◌||◌ z (ne_eqb tag 34 (λ e. omega arith))))
        (which (eqb tag 2))

marked_uses : {xs : List ℕ} (A : List TermRow) {us : List Name} → UsesAre xs A us → UsesAre xs (last_marked A) us
unfolding last_marked
marked_uses [] no_more = no_more
marked_uses (r ∷ []) (used t p h a) = used (use_marked r.tag ∙ t) p h a
marked_uses (r ∷ []) (other t a) = other (use_marked r.tag ∙ t) a
marked_uses (r ∷ q ∷ A) (used t p h a) = used t p h (marked_uses (q ∷ A) a)
marked_uses (r ∷ q ∷ A) (other t a) = other t (marked_uses (q ∷ A) a)

uses_append : (l m : List Term) → uses_in (l ++ m) ≡ uses_in l ++ uses_in m
unfolding uses_in
uses_append [] m = refl
uses_append (a_number n ∷ l) m = uses_append l m
uses_append (a_use x ∷ l) m = ap {B = List Name} (λ r. x ∷ r) (uses_append l m)
uses_append (a_sign s ∷ l) m = uses_append l m

pub terms_append : (l m : List Component) → terms_of (l ++ m) ≡ terms_of l ++ terms_of m
unfolding terms_of
terms_append [] m = refl
terms_append (whole_number c ∷ l) m = ap (λ (q : List Term). terms_of_calculation c ++ q) (terms_append l m) ∙ sym (append_assoc (terms_of_calculation c) (terms_of l) (terms_of m))
terms_append (joined_by s ∷ l) m = ap {B = List Term} (λ r. a_sign s ∷ r) (terms_append l m)

both : {xs : List ℕ} {A B : List TermRow} (l m : List Term) → UsesAre xs A (uses_in l) → UsesAre xs B (uses_in m) → UsesAre xs (A ++ B) (uses_in (l ++ m))
both {xs} {A} {B} l m a b = subst (UsesAre xs (A ++ B)) (sym (uses_append l m)) (joined a b)

-- ---- calculations

primary_uses : {xs : List ℕ} (o : ℕ) (x : Primary) (w : List Lexeme) {p : ℕ} → Standing xs p (spell_primary x w) → UsesAre xs (primary_rows o x) (uses_in (primary_terms x))
unfolding primary_rows spell_primary uses_in
primary_uses o (number n) w h = other refl no_more
primary_uses o (variable x) w h = used refl refl (here h) no_more

operand_uses : {xs : List ℕ} (o : ℕ) (x : Operand) (w : List Lexeme) {p : ℕ} → Standing xs p (spell_operand x w) → UsesAre xs (operand_rows o x) (uses_in (operand_terms x))
unfolding operand_rows spell_operand uses_in
operand_uses o (plain x) w h = primary_uses o x w h
operand_uses o (opposite s x) w h = quiet (primary_uses o x w (past h)) (other refl no_more)

factors_uses : {xs : List ℕ} (o : ℕ) (x : Factors) (w : List Lexeme) {p : ℕ} → Standing xs p (spell_factors x w) → UsesAre xs (factors_rows o x) (uses_in (factor_terms x))
unfolding factors_rows spell_factors uses_in factor_terms
factors_uses o no_factor w h = no_more
factors_uses o (times s x more) w h =
    both (operand_terms x) (factor_terms more) (operand_uses o x (spell_factors more w) (past h)) (other refl (factors_uses o more w (after_operand x (past h))))

product_uses : {xs : List ℕ} (o : ℕ) (x : Product) (w : List Lexeme) {p : ℕ} → Standing xs p (spell_product x w) → UsesAre xs (product_rows o x) (uses_in (product_terms x))
unfolding product_rows spell_product
product_uses o (product x more) w h = both (operand_terms x) (factor_terms more) (operand_uses o x (spell_factors more w) h) (factors_uses o more w (after_operand x h))

summands_uses : {xs : List ℕ} (o : ℕ) (x : Summands) (w : List Lexeme) {p : ℕ} → Standing xs p (spell_summands x w) → UsesAre xs (summands_rows o x) (uses_in (summand_terms x))
unfolding summands_rows spell_summands uses_in summand_terms
summands_uses o no_summand w h = no_more
summands_uses o (plus s x more) w h =
    both (product_terms x) (summand_terms more) (product_uses o x (spell_summands more w) (past h)) (other refl (summands_uses o more w (after_product x (past h))))
summands_uses o (minus s x more) w h =
    both (product_terms x) (summand_terms more) (product_uses o x (spell_summands more w) (past h)) (other refl (summands_uses o more w (after_product x (past h))))

calculation_uses : {xs : List ℕ} (x : Calculation) (w : List Lexeme) {p : ℕ} → Standing xs p (spell_calculation x w) → UsesAre xs (calculation_rows x) (uses_in (terms_of_calculation x))
unfolding calculation_rows spell_calculation
calculation_uses (sum x more) w h =
    both (product_terms x) (summand_terms more) (product_uses (start_of_product x) x (spell_summands more w) h) (summands_uses (start_of_product x) more w (after_product x h))

-- ---- sets, counts and conditions

-- the uses among components
abbrev pub uses_of : List Component → List Name
uses_of f = uses_in (terms_of f)

-- a calculation, and what comes after it
counted_first : {xs : List ℕ} (a : Calculation) (w : List Lexeme) {p : ℕ} {B : List TermRow} (m : List Component) → Standing xs p (spell_calculation a w) → UsesAre xs B (uses_of m) → UsesAre xs (calculation_rows a ++ B) (uses_of (whole_number a ∷ m))
unfolding terms_of
counted_first a w m h b = both (terms_of_calculation a) (terms_of m) (calculation_uses a w h) b

parted : {xs : List ℕ} {A B : List TermRow} (l m : List Component) → UsesAre xs A (uses_of l) → UsesAre xs B (uses_of m) → UsesAre xs (A ++ B) (uses_of (l ++ m))
parted {xs} {A} {B} l m a b = subst (λ (q : List Term). UsesAre xs (A ++ B) (uses_in q)) (sym (terms_append l m)) (both (terms_of l) (terms_of m) a b)

-- two calculations, a sign that is stored behind them, and then no uses
two_uses : {xs : List ℕ} (a b : Calculation) (k : Kind) (s : Sign) (r : TermRow) (w : List Lexeme) {p : ℕ} {J : List TermRow} → is_use r.tag ≡ false → UsesAre xs J [] → Standing xs p (spell_calculation a (sign k s ∷ spell_calculation b w))
    → UsesAre xs (calculation_rows a ++ (calculation_rows b ++ r ∷ J)) (uses_of (whole_number a ∷ joined_by s ∷ whole_number b ∷ []))
unfolding terms_of uses_in
two_uses a b k s r w q j h =
    counted_first a (sign k s ∷ spell_calculation b w) (joined_by s ∷ whole_number b ∷ []) h (counted_first b w [] (past (after_calculation a h)) (other q j))

item_uses : {xs : List ℕ} (x : Item) (w : List Lexeme) {p : ℕ} → Standing xs p (spell_item x w) → UsesAre xs (item_rows x) (uses_of (item_parts x))
unfolding item_rows spell_item terms_of uses_in
item_uses (everything s) w h = other refl no_more
item_uses {xs} (only a) w h =
    marked_uses (calculation_rows a) (subst (λ (q : List Term). UsesAre xs (calculation_rows a) (uses_in q)) (sym (append-nil (terms_of_calculation a))) (calculation_uses a w h))
item_uses (between a s b) w h = two_uses a b Kind.Tilde s (a_term 8 0 s.start 0) w refl no_more h
item_uses (from a s) w h = counted_first a (sign Kind.Tilde s ∷ w) (joined_by s ∷ []) h (other refl no_more)
item_uses (up_to_bound s b) w h = counted_first b w [] (past h) (other refl no_more)

pub set_uses : {xs : List ℕ} {k : SetPart} {d : ℕ} (x : Choices k d) (w : List Lexeme) {p : ℕ} {J : List TermRow} → UsesAre xs J [] → Standing xs p (spell_set x w) → UsesAre xs (set_rows x J) (uses_of (set_parts x))
unfolding set_rows spell_set set_parts terms_of uses_in
set_uses (item a) w j h = quiet (item_uses a w h) j
set_uses (item_but_item a s b) w j h =
    parted (item_parts a) (joined_by s ∷ item_parts b) (item_uses a (sign Kind.Bang s ∷ spell_item b w) h) (quiet (item_uses b w (past (after_item a h))) (other refl j))
set_uses (item_but_set depth a s opens b closes) w j h =
    parted (item_parts a) (joined_by s ∷ set_parts b) (item_uses a (sign Kind.Bang s ∷ sign Kind.OpenParen opens ∷ spell_set b (sign Kind.CloseParen closes ∷ w)) h)
    (quiet (set_uses b (sign Kind.CloseParen closes ∷ w) no_more (past (past (after_item a h)))) (other refl j))
set_uses (last_choice a) w j h = set_uses a w j h
set_uses (or_choices a s b) w j h =
    parted (set_parts a) (joined_by s ∷ set_parts b) (set_uses a (sign Kind.Bar s ∷ spell_set b w) j h) (set_uses b w (other refl no_more) (past (after_set a h)))

pub counts_uses : {xs : List ℕ} (x : Counts) (w : List Lexeme) {p : ℕ} → Standing xs p (spell_counts x w) → UsesAre xs (counts_rows x) (uses_of (counts_parts x))
unfolding counts_rows spell_counts terms_of uses_in
counts_uses {xs} (exactly n) w h = subst (λ (q : List Term). UsesAre xs (calculation_rows n) (uses_in q)) (sym (append-nil (terms_of_calculation n))) (calculation_uses n w h)
counts_uses (at_least_count a s) w h = counted_first a (sign Kind.Tilde s ∷ w) (joined_by s ∷ []) h (other refl no_more)
counts_uses (at_most s b) w h = counted_first b w [] (past h) (other refl no_more)
counts_uses (span a s b) w h = two_uses a b Kind.Tilde s (a_term 8 0 s.start 0) w refl no_more h

comparison_quiet : (c : Comparison) → is_use (tag_of c) ≡ false
comparison_quiet equal = refl
comparison_quiet unequal = refl
comparison_quiet less = refl
comparison_quiet at_most_as = refl
comparison_quiet greater = refl
comparison_quiet at_least_as = refl

pub tests_uses : {xs : List ℕ} {k : TestPart} {d : ℕ} (x : Tests k d) (w : List Lexeme) {p : ℕ} {J : List TermRow} → UsesAre xs J [] → Standing xs p (spell_tests x w) → UsesAre xs (tests_rows x J) (uses_of (tests_parts x))
unfolding tests_rows spell_tests tests_parts terms_of uses_in
tests_uses (compare a c s b) w j h = two_uses a b (comparison_sign c) s (a_term (tag_of c) 0 s.start 0) w (comparison_quiet c) j h
tests_uses (test_group depth opens a closes) w j h = quiet (tests_uses a (sign Kind.CloseParen closes ∷ w) no_more (past h)) j
tests_uses (one_test a) w j h = tests_uses a w j h
tests_uses (all_of a s b) w j h =
    parted (tests_parts a) (joined_by s ∷ tests_parts b) (tests_uses a (sign Kind.Ampersand s ∷ spell_tests b w) j h) (tests_uses b w (other refl no_more) (past (after_tests a h)))
tests_uses (any_of a s b) w j h =
    parted (tests_parts a) (joined_by s ∷ tests_parts b) (tests_uses a (sign Kind.Bar s ∷ spell_tests b w) j h) (tests_uses b w (other refl no_more) (past (after_tests a h)))
tests_uses (last_conjunct a) w j h = tests_uses a w j h
tests_uses (and_conjuncts a s b) w j h =
    parted (tests_parts a) (joined_by s ∷ tests_parts b) (tests_uses a (sign Kind.Ampersand s ∷ spell_tests b w) j h) (tests_uses b w (other refl no_more) (past (after_tests a h)))
tests_uses (last_disjunct a) w j h = tests_uses a w j h
tests_uses (or_disjuncts a s b) w j h =
    parted (tests_parts a) (joined_by s ∷ tests_parts b) (tests_uses a (sign Kind.Bar s ∷ spell_tests b w) j h) (tests_uses b w (other refl no_more) (past (after_tests a h)))
