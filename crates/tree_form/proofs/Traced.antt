-- The spelling of a tree is read as that tree.
-- Assumes nothing.
use Prim.Native.Nat.{ℕ, ◌+◌, ◌<◌}
use mathlib.Core.Path.{◌≡◌, refl, ap, subst, ◌∙◌}
use mathlib.Core.Bool.{Bool, true, false, ◌||◌}
use mathlib.Core.List.{List, ◌∷◌}
use native.Mathlib.Omega.{arith}
use borrow.Author.Tests.{ltb-true, lt-ltb}
use lib.Dec.{eqb}
use Rattle.basis.proofs.Booleans.{picked}
use Rattle.text_tokens.specs.declared.Kind.{Kind}
use Rattle.text_parsing.specs.Terminals.{begin_like}
use Rattle.text_store.specs.Store.{State, terms_of}
use Rattle.text_parsing.specs.Symbols.{Symbol}
use Rattle.tree.specs.Lexemes.{Sign, Name, Lexeme, sign, word}
use Rattle.tree.specs.Tree.{Primary, number, variable, Operand, plain, opposite, Factors, no_factor, times, product, Summands, no_summand, plus, minus, Calculation, sum, Item, everything, only, between, from, up_to_bound, SetPart, whole, choice, Choices, item, item_but_item, item_but_set, last_choice, or_choices, Counts, exactly, at_least_count, at_most, span, Comparison, equal, unequal, less, at_most_as, greater, at_least_as, TestPart, tests, test, conjuncts, disjuncts, Tests, compare, test_group, one_test, all_of, any_of, last_conjunct, and_conjuncts, last_disjunct, or_disjuncts, Mark, optional, any_number, one_or_more, counted, cases, Tree, last_case, case_default, case_cases}
use Rattle.tree.specs.Spelling.{spell_primary, spell_operand, spell_factors, spell_product, spell_summands, spell_calculation, spell_item, spell_set, spell_counts, comparison_sign, spell_tests, spell_mark, spell}
use Rattle.tree_form.proofs.Classified.{code, opens}
use Rattle.tree_form.proofs.Rests.{Upper, no_upper, an_upper, reaches, but_item, but_set, excluded_set, MoreChoices, no_choice, more_choices, Links, no_link, link, not_joined, by_and, by_or, a_mark, Rests, Ground}
use Rattle.tree_form.proofs.Words.{word_has}
use Rattle.tree_form.proofs.Parts.{chosen, all_from, any_from}
use Rattle.tree_form.proofs.Leading.{consumed}
use Rattle.tree_form.proofs.Reading.{tree, after, parse, reading}
use native.Mathlib.Bridge.{le_prop}
use Rattle.text_tokens.specs.Names.{reserved_of}
use Rattle.tree_form.proofs.Skips.{Reads, head_code, Not, onward, cond_on, past_sign, past_factors, past_summands, past_item, past_upper, past_exception, past_choices, past_counts, past_joined, past_chain, begin_operand, begin_calculation, begin_item, begin_upper, begin_excluded, begin_choice, begin_set, begin_counts, begin_test, begin_condition}

-- ---- the first token of a spelling

primary_head : (P : ℕ → Type 0) → P 1 → P 2 → P 6 → P 7 → P 8 → (a : Primary) (w : List Lexeme) → P (head_code (spell_primary a w))
unfolding spell_primary
primary_head P a b c d e (number n) w = b
primary_head P a b c d e (variable x) w = word_has x (opens w) (λ v z. P v) (λ z. a) (λ z. c) (λ z. d) (λ z. e) (code (word x) (opens w)) refl

calculation_head : (P : ℕ → Type 0) → P 1 → P 2 → P 6 → P 7 → P 8 → P 45 → (a : Calculation) (w : List Lexeme) → P (head_code (spell_calculation a w))
unfolding spell_calculation spell_product spell_operand
calculation_head P a b c d e f (sum (product (plain x) fs) ss) w = primary_head P a b c d e x (spell_factors fs (spell_summands ss w))
calculation_head P a b c d e f (sum (product (opposite s x) fs) ss) w = f

calculation_not : (k : ℕ) → eqb 1 k ≡ false → eqb 2 k ≡ false → eqb 6 k ≡ false → eqb 7 k ≡ false → eqb 8 k ≡ false → eqb 45 k ≡ false → (a : Calculation) (w : List Lexeme) → Not k (spell_calculation a w)
calculation_not k = calculation_head (λ (v : ℕ). eqb v k ≡ false)

calculation_begins_here : (a : Calculation) (w : List Lexeme) → begin_like (head_code (spell_calculation a w)) ≡ true
calculation_begins_here = calculation_head (λ (v : ℕ). begin_like v ≡ true) refl refl refl refl refl refl

-- no item begins with `(`
item_not : (a : Item) (w : List Lexeme) → Not 40 (spell_item a w)
unfolding spell_item
item_not (everything s) w = refl
item_not (only a) w = calculation_not 40 refl refl refl refl refl refl a w
item_not (between a s b) w = calculation_not 40 refl refl refl refl refl refl a (sign Kind.Tilde s ∷ spell_calculation b w)
item_not (from a s) w = calculation_not 40 refl refl refl refl refl refl a (sign Kind.Tilde s ∷ w)
item_not (up_to_bound s b) w = refl

-- nor a condition with `]` or `:`
tests_not : (k : ℕ) → eqb 1 k ≡ false → eqb 2 k ≡ false → eqb 6 k ≡ false → eqb 7 k ≡ false → eqb 8 k ≡ false → eqb 45 k ≡ false → eqb 40 k ≡ false → {p : TestPart} {d : ℕ} (t : Tests p d) (w : List Lexeme) → Not k (spell_tests t w)
unfolding spell_tests
tests_not k a b c d e f h (compare x i s y) w = calculation_not k a b c d e f x (sign (comparison_sign i) s ∷ spell_calculation y w)
tests_not k a b c d e f h (test_group l o x m) w = h
tests_not k a b c d e f h (one_test x) w = tests_not k a b c d e f h x w
tests_not k a b c d e f h (all_of x s y) w = tests_not k a b c d e f h x (sign Kind.Ampersand s ∷ spell_tests y w)
tests_not k a b c d e f h (any_of x s y) w = tests_not k a b c d e f h x (sign Kind.Bar s ∷ spell_tests y w)
tests_not k a b c d e f h (last_conjunct x) w = tests_not k a b c d e f h x w
tests_not k a b c d e f h (and_conjuncts x s y) w = tests_not k a b c d e f h x (sign Kind.Ampersand s ∷ spell_tests y w)
tests_not k a b c d e f h (last_disjunct x) w = tests_not k a b c d e f h x w
tests_not k a b c d e f h (or_disjuncts x s y) w = tests_not k a b c d e f h x (sign Kind.Bar s ∷ spell_tests y w)

pub cases_not : (k : ℕ) → eqb 1 k ≡ false → eqb 2 k ≡ false → eqb 6 k ≡ false → eqb 7 k ≡ false → eqb 8 k ≡ false → eqb 45 k ≡ false → eqb 40 k ≡ false → {d : ℕ} (t : Tree cases d) (w : List Lexeme) → Not k (spell t w)
unfolding spell
cases_not k a b c d e f h (last_case t s x i) w = tests_not k a b c d e f h t (sign Kind.Colon s ∷ spell x (sign Kind.Semicolon i ∷ w))
cases_not k a b c d e f h (case_default t s x i s' y i') w = tests_not k a b c d e f h t (sign Kind.Colon s ∷ spell x (sign Kind.Semicolon i ∷ sign Kind.Colon s' ∷ spell y (sign Kind.Semicolon i' ∷ w)))
cases_not k a b c d e f h (case_cases t s x i y) w = tests_not k a b c d e f h t (sign Kind.Colon s ∷ spell x (sign Kind.Semicolon i ∷ spell y w))

-- a set does not begin with `var` and `(`
word_not_var : (x : Name) (next : Bool) → next ≡ false → eqb (code (word x) next) 8 ≡ false
word_not_var x true f = let z : ◌≡◌ {A = ℕ} 0 1 = cc in absurd (omega arith)
word_not_var x false f =
    picked (λ (v : ℕ). eqb v 8 ≡ false) (eqb (reserved_of x.letters) 12 || eqb (reserved_of x.letters) 13) (λ e. refl)
    (λ e₁. picked (λ (v : ℕ). eqb v 8 ≡ false) (eqb (reserved_of x.letters) 9) (λ e. refl)
    (λ e₂. picked (λ (v : ℕ). eqb v 8 ≡ false) (eqb (reserved_of x.letters) 10) (λ e. refl) (λ e. refl)))

factors_open : (fs : Factors) (w : List Lexeme) → opens w ≡ false → opens (spell_factors fs w) ≡ false
unfolding spell_factors
factors_open no_factor w f = f
factors_open (times s x more) w f = refl

summands_open : (ss : Summands) (w : List Lexeme) → opens w ≡ false → opens (spell_summands ss w) ≡ false
unfolding spell_summands
summands_open no_summand w f = f
summands_open (plus s x more) w f = refl
summands_open (minus s x more) w f = refl

calculation_not_var : (a : Calculation) (w : List Lexeme) → opens w ≡ false → Not 8 (spell_calculation a w)
unfolding spell_calculation spell_product spell_operand spell_primary
calculation_not_var (sum (product (plain (number n)) fs) ss) w f = refl
calculation_not_var (sum (product (plain (variable x)) fs) ss) w f = word_not_var x (opens (spell_factors fs (spell_summands ss w))) (factors_open fs (spell_summands ss w) (summands_open ss w f))
calculation_not_var (sum (product (opposite s x) fs) ss) w f = refl

item_not_var : (a : Item) (w : List Lexeme) → opens w ≡ false → Not 8 (spell_item a w)
unfolding spell_item
item_not_var (everything s) w f = refl
item_not_var (only a) w f = calculation_not_var a w f
item_not_var (between a s b) w f = calculation_not_var a (sign Kind.Tilde s ∷ spell_calculation b w) refl
item_not_var (from a s) w f = calculation_not_var a (sign Kind.Tilde s ∷ w) refl
item_not_var (up_to_bound s b) w f = refl

pub set_not_var : {p : SetPart} {d : ℕ} (a : Choices p d) (w : List Lexeme) → opens w ≡ false → Not 8 (spell_set a w)
unfolding spell_set
set_not_var (item a) w f = item_not_var a w f
set_not_var (item_but_item a s b) w f = item_not_var a (sign Kind.Bang s ∷ spell_item b w) refl
set_not_var (item_but_set l a s o b c) w f = item_not_var a (sign Kind.Bang s ∷ sign Kind.OpenParen o ∷ spell_set b (sign Kind.CloseParen c ∷ w)) refl
set_not_var (last_choice a) w f = set_not_var a w f
set_not_var (or_choices a s b) w f = set_not_var a (sign Kind.Bar s ∷ spell_set b w) refl

-- ---- what follows a part does not go on with it

abbrev pub AfterSum : List Lexeme → Type 0
AfterSum w = Not 42 w × Not 43 w × Not 45 w

abbrev pub AfterItem : List Lexeme → Type 0
AfterItem w = AfterSum w × Not 126 w × (begin_like (head_code w) ≡ false)

abbrev pub AfterChoice : List Lexeme → Type 0
AfterChoice w = AfterItem w × Not 33 w

abbrev pub AfterSet : List Lexeme → Type 0
AfterSet w = AfterChoice w × Not 124 w

abbrev pub AfterTests : List Lexeme → Type 0
AfterTests w = AfterSum w × Not 38 w × Not 124 w

abbrev pub AfterAtom : List Lexeme → Type 0
AfterAtom w = Not 126 w × (opens w ≡ false)

abbrev pub AfterFactor : List Lexeme → Type 0
AfterFactor w = AfterAtom w × Not 123 w × Not 63 w × Not 42 w × Not 43 w

abbrev pub AfterMembers : List Lexeme → Type 0
AfterMembers w = AfterFactor w × Not 38 w

abbrev pub AfterBranches : List Lexeme → Type 0
AfterBranches w = AfterMembers w × Not 124 w

-- ---- calculations

reads_primary : (o : ℕ) (a : Primary) {w : List Lexeme} {ks : List Symbol} {g : Ground ks} {r : Rests ks} → Reads w ks g r → Reads (spell_primary a w) (Symbol.primary o ∷ ks) g (a, r)
unfolding reading spell_primary
reads_primary o (number n) h = record { read = λ st. onward _ (h.read _) }
reads_primary o (variable x) {w} {ks} {g} {r} h =
    record { read = λ st. word_has x (opens w) (λ c e. after (λ st' ks' g'. parse w st' ks' g') (consumed (word x) (opens w) c e (Symbol.primary o ∷ ks) st g) ≡ tree (variable x, r)) (λ e. onward _ (h.read _)) (λ e. onward _ (h.read _)) (λ e. onward _ (h.read _)) (λ e. onward _ (h.read _)) (code (word x) (opens w)) refl }

reads_operand : (o : ℕ) (a : Operand) {w : List Lexeme} {ks : List Symbol} {g : Ground ks} {r : Rests ks} → Reads w ks g r → Reads (spell_operand a w) (Symbol.operand o ∷ ks) g (a, r)
unfolding reading spell_operand
reads_operand o (plain x) {w} h = begin_operand o (spell_primary x w) (primary_head (λ (v : ℕ). eqb v 45 ≡ false) refl refl refl refl refl x w) (reads_primary o x h)
reads_operand o (opposite s x) {w} h = record { read = λ st. onward _ ((reads_primary o x (past_sign 6 s.start o w h)).read _) }

reads_factors : (o : ℕ) (a : Factors) {w : List Lexeme} {ks : List Symbol} {g : Ground ks} {r : Rests ks} → Not 42 w → Reads w ks g r → Reads (spell_factors a w) (Symbol.factors o ∷ ks) g (a, r)
unfolding reading spell_factors
reads_factors o no_factor {w} f h = past_factors o w f h
reads_factors o (times s x more) {w} f h = record { read = λ st. onward _ ((reads_operand o x (past_sign 5 s.start o (spell_factors more w) (reads_factors o more f h))).read _) }

summands_not : (ss : Summands) (w : List Lexeme) → Not 42 w → Not 42 (spell_summands ss w)
unfolding spell_summands
summands_not no_summand w f = f
summands_not (plus s x more) w f = refl
summands_not (minus s x more) w f = refl

reads_summands : (o : ℕ) (a : Summands) {w : List Lexeme} {ks : List Symbol} {g : Ground ks} {r : Rests ks} → AfterSum w → Reads w ks g r → Reads (spell_summands a w) (Symbol.summands o ∷ ks) g (a, r)
unfolding reading spell_summands spell_product
reads_summands o no_summand {w} f h = past_summands o w f.1 f.2 h
reads_summands o (plus s (product x fs) more) {w} f h = record { read = λ st. onward _ ((reads_operand o x (reads_factors o fs (summands_not more w f.0) (past_sign 3 s.start o (spell_summands more w) (reads_summands o more f h)))).read _) }
reads_summands o (minus s (product x fs) more) {w} f h = record { read = λ st. onward _ ((reads_operand o x (reads_factors o fs (summands_not more w f.0) (past_sign 4 s.start o (spell_summands more w) (reads_summands o more f h)))).read _) }

reads_calculation : (a : Calculation) {w : List Lexeme} {ks : List Symbol} {g : Ground ks} {r : Rests ks} → AfterSum w → Reads w ks g r → Reads (spell_calculation a w) (Symbol.calculation ∷ ks) g (a, r)
unfolding spell_calculation spell_product
reads_calculation (sum (product x fs) ss) {w} f h = begin_calculation (spell_operand x (spell_factors fs (spell_summands ss w))) (λ o. reads_operand o x (reads_factors o fs (summands_not ss w f.0) (reads_summands o ss f h)))

-- ---- sets

reads_upper : (some none p : ℕ) (b : Calculation) {w : List Lexeme} {ks : List Symbol} {g : Ground ks} {r : Rests ks} → AfterSum w → Reads w ks g r → Reads (spell_calculation b w) (Symbol.bound some none p ∷ ks) g (an_upper b, r)
reads_upper some none p b {w} f h = begin_upper some none p (spell_calculation b w) (calculation_begins_here b w) (reads_calculation b f (past_sign some p 0 w h))

reads_tilde : (s : Sign) (u : Upper) {w : List Lexeme} {ks : List Symbol} {g : Ground ks} {r : Rests ks} → Reads w (Symbol.bound 8 9 s.start ∷ ks) g (u, r) → Reads (sign Kind.Tilde s ∷ w) (Symbol.item_tail ∷ ks) g (reaches s u, r)
unfolding reading
reads_tilde s u h = record { read = λ st. onward _ (h.read _) }

reads_item : (a : Item) {w : List Lexeme} {ks : List Symbol} {g : Ground ks} {r : Rests ks} → AfterItem w → Reads w ks g r → Reads (spell_item a w) (Symbol.item ∷ ks) g (a, r)
unfolding reading spell_item
reads_item (everything s) {w} f h = record { read = λ st. onward _ ((past_upper 10 7 s.start w f.2 h).read _) }
reads_item (only a) {w} f h = begin_item (spell_calculation a w) (calculation_not 126 refl refl refl refl refl refl a w) (reads_calculation a f.0 (past_item w f.1 h))
reads_item (between a s b) {w} f h = begin_item (spell_calculation a (sign Kind.Tilde s ∷ spell_calculation b w)) (calculation_not 126 refl refl refl refl refl refl a (sign Kind.Tilde s ∷ spell_calculation b w)) (reads_calculation a (refl, refl, refl) (reads_tilde s (an_upper b) (reads_upper 8 9 s.start b f.0 h)))
reads_item (from a s) {w} f h = begin_item (spell_calculation a (sign Kind.Tilde s ∷ w)) (calculation_not 126 refl refl refl refl refl refl a (sign Kind.Tilde s ∷ w)) (reads_calculation a (refl, refl, refl) (reads_tilde s no_upper (past_upper 8 9 s.start w f.2 h)))
reads_item (up_to_bound s b) {w} f h = record { read = λ st. onward _ ((reads_upper 10 7 s.start b f.0 h).read _) }

-- the first alternative of a set, and those after it
abbrev pub first_choice : {d : ℕ} → Choices whole d → Choices choice d
first_choice (last_choice a) = a
first_choice (or_choices a s b) = a

abbrev rest_choices : {d : ℕ} → Choices whole d → MoreChoices d
rest_choices (last_choice a) = no_choice
rest_choices (or_choices a s b) = more_choices s b

same_choices : {d : ℕ} (b : Choices whole d) → chosen (first_choice b) (rest_choices b) ≡ b
same_choices (last_choice a) = refl
same_choices (or_choices a s b) = refl

-- an alternative is read; so is a set, whatever leads to its further alternatives
abbrev SetReads : (p : SetPart) (d : ℕ) → Choices p d → Type 0
SetReads choice d a = (w : List Lexeme) (ks : List Symbol) (g : Ground ks) (r : Rests ks) → AfterChoice w → Reads w ks g r → Reads (spell_set a w) (Symbol.alternative d ∷ ks) g (a, r)
SetReads whole d b = (w : List Lexeme) (ks : List Symbol) (g : Ground ks) (r : Rests ks) → AfterSet w → Reads w ks g r → (K : List Symbol) (gK : Ground K) (F : Rests (Symbol.alternatives d ∷ ks) → Rests K) → ((ls : List Lexeme) (z : Rests (Symbol.alternatives d ∷ ks)) → Reads ls (Symbol.alternatives d ∷ ks) g z → Reads ls K gK (F z)) → Reads (spell_set b w) (Symbol.alternative d ∷ K) gK (first_choice b, F (rest_choices b, r))

whole_set : (d : ℕ) (b : Choices whole d) → SetReads whole d b → (w : List Lexeme) (ks : List Symbol) (g : Ground ks) (r : Rests ks) → AfterSet w → Reads w ks g r → Reads (spell_set b w) (Symbol.value_set d ∷ ks) g (b, r)
whole_set d b t w ks g r f h =
    subst (λ (z : Choices whole d). Reads (spell_set b w) (Symbol.value_set d ∷ ks) g (z, r)) (same_choices b)
    (begin_set d (spell_set b w) (t w ks g r f h (Symbol.alternatives d ∷ ks) g (λ z. z) (λ ls z y. y)))

pub reads_close : (c : Sign) {w : List Lexeme} {ks : List Symbol} {g : Ground ks} {r : Rests ks} → Reads w ks g r → Reads (sign Kind.CloseParen c ∷ w) (Symbol.want 41 ∷ ks) (refl, g) (c, r)
unfolding reading
reads_close c h = record { read = λ st. onward _ (h.read _) }

reads_bang_item : (d : ℕ) (s : Sign) (b : Item) {w : List Lexeme} {ks : List Symbol} {g : Ground ks} {r : Rests ks} → AfterItem w → Reads w ks g r → Reads (sign Kind.Bang s ∷ spell_item b w) (Symbol.exception d ∷ ks) g (but_item s b, r)
unfolding reading
reads_bang_item d s b {w} f h = record { read = λ st. onward _ ((begin_excluded d (spell_item b w) (item_not b w) (reads_item b f (past_sign 12 s.start 0 w h))).read _) }

reads_excluded_set : (d : ℕ) (l : d < 16) (o : Sign) (b : Choices whole (d + 1)) (c : Sign) {w : List Lexeme} {ks : List Symbol} {g : Ground ks} {r : Rests ks} → Reads w (Symbol.value_set (d + 1) ∷ Symbol.want 41 ∷ ks) (refl, g) (b, (c, r)) → Reads (sign Kind.OpenParen o ∷ w) (Symbol.excluded d ∷ ks) g (excluded_set l o b c, r)
unfolding reading
reads_excluded_set d l o b c {r = r} h = record { read = λ st. cond_on _ _ _ _ (lt-ltb d 16 l) (λ u. onward _ (h.read _) ∙ λ i. tree (excluded_set (le_prop (ltb-true d 16 u) l i) o b c, r)) }

reads_bang_set : (d : ℕ) (l : d < 16) (s o : Sign) (b : Choices whole (d + 1)) (c : Sign) {w : List Lexeme} {ks : List Symbol} {g : Ground ks} {r : Rests ks} → Reads w (Symbol.excluded d ∷ Symbol.sign 12 s.start 0 ∷ ks) g (excluded_set l o b c, (tt, r)) → Reads (sign Kind.Bang s ∷ w) (Symbol.exception d ∷ ks) g (but_set l s o b c, r)
unfolding reading
reads_bang_set d l s o b c h = record { read = λ st. onward _ (h.read _) }

reads_bar : (d : ℕ) (s : Sign) (b : Choices whole d) {w : List Lexeme} {ks : List Symbol} {g : Ground ks} {r : Rests ks} → Reads w (Symbol.alternative d ∷ Symbol.sign 11 s.start 0 ∷ Symbol.alternatives d ∷ ks) g (first_choice b, (tt, (rest_choices b, r))) → Reads (sign Kind.Bar s ∷ w) (Symbol.alternatives d ∷ ks) g (more_choices s b, r)
unfolding reading
reads_bar d s b {r = r} h = record { read = λ st. onward _ (h.read _) ∙ λ i. tree (more_choices s (same_choices b i), r) }

reads_set : {p : SetPart} {d : ℕ} (a : Choices p d) → SetReads p d a
unfolding spell_set
reads_set (item {d} a) = λ w ks g r f h. begin_choice d (spell_item a w) (reads_item a f.0 (past_exception d w f.1 h))
reads_set (item_but_item {d} a s b) = λ w ks g r f h. begin_choice d (spell_item a (sign Kind.Bang s ∷ spell_item b w)) (reads_item a ((refl, refl, refl), refl, refl) (reads_bang_item d s b f.0 h))
reads_set (item_but_set {d} l a s o b c) =
    λ w ks g r f h.
    begin_choice d (spell_item a (sign Kind.Bang s ∷ sign Kind.OpenParen o ∷ spell_set b (sign Kind.CloseParen c ∷ w)))
    (reads_item a ((refl, refl, refl), refl, refl)
    (reads_bang_set d l s o b c
    (reads_excluded_set d l o b c
    (whole_set (d + 1) b (reads_set b) (sign Kind.CloseParen c ∷ w) (Symbol.want 41 ∷ Symbol.sign 12 s.start 0 ∷ ks) (refl, g) (c, (tt, r)) ((((refl, refl, refl), refl, refl), refl), refl) (reads_close c (past_sign 12 s.start 0 w h))))))
reads_set (last_choice {d} a) = λ w ks g r f h K gK F skip. reads_set a w K gK (F (no_choice, r)) f.0 (skip w (no_choice, r) (past_choices d w f.1 h))
reads_set (or_choices {d} a s b) =
    λ w ks g r f h K gK F skip.
    reads_set a (sign Kind.Bar s ∷ spell_set b w) K gK (F (more_choices s b, r)) (((refl, refl, refl), refl, refl), refl)
    (skip (sign Kind.Bar s ∷ spell_set b w) (more_choices s b, r)
    (reads_bar d s b (reads_set b w ks g r f h (Symbol.sign 11 s.start 0 ∷ Symbol.alternatives d ∷ ks) g (λ z. (tt, z)) (λ ls z y. past_sign 11 s.start 0 ls y))))

-- a set in its parentheses
pub reads_value_set : (d : ℕ) (b : Choices whole d) (c : Sign) {w : List Lexeme} {ks : List Symbol} {g : Ground ks} {r : Rests ks} → Reads w ks g r → Reads (spell_set b (sign Kind.CloseParen c ∷ w)) (Symbol.value_set d ∷ Symbol.want 41 ∷ ks) (refl, g) (b, (c, r))
reads_value_set d b c {w} {ks} {g} {r} h = whole_set d b (reads_set b) (sign Kind.CloseParen c ∷ w) (Symbol.want 41 ∷ ks) (refl, g) (c, r) ((((refl, refl, refl), refl, refl), refl), refl) (reads_close c h)

-- the set of a field, and the parenthesis that ends the field
pub reads_field_set : (d p v name how f : ℕ) (b : Choices whole d) (c : Sign) {w : List Lexeme} {ks : List Symbol} {g : Ground ks} {r : Rests ks} → Reads w ks g r → Reads (spell_set b (sign Kind.CloseParen c ∷ w)) (Symbol.value_set d ∷ Symbol.field_end p v name how f ∷ ks) g (b, (c, r))
unfolding reading
reads_field_set d p v name how f b c {w} {ks} {g} {r} h =
    whole_set d b (reads_set b) (sign Kind.CloseParen c ∷ w) (Symbol.field_end p v name how f ∷ ks) g (c, r) ((((refl, refl, refl), refl, refl), refl), refl)
    (record { read = λ st. onward _ (h.read _) })

-- ---- counts

reads_counts_tilde : (s : Sign) (u : Upper) {w : List Lexeme} {ks : List Symbol} {g : Ground ks} {r : Rests ks} → Reads w (Symbol.bound 8 9 s.start ∷ ks) g (u, r) → Reads (sign Kind.Tilde s ∷ w) (Symbol.counts_tail ∷ ks) g (reaches s u, r)
unfolding reading
reads_counts_tilde s u h = record { read = λ st. onward _ (h.read _) }

reads_counts : (n : Counts) {w : List Lexeme} {ks : List Symbol} {g : Ground ks} {r : Rests ks} → AfterItem w → Reads w ks g r → Reads (spell_counts n w) (Symbol.counts ∷ ks) g (n, r)
unfolding reading spell_counts
reads_counts (exactly a) {w} f h = begin_counts (spell_calculation a w) (calculation_not 126 refl refl refl refl refl refl a w) (reads_calculation a f.0 (past_counts w f.1 h))
reads_counts (at_least_count a s) {w} f h = begin_counts (spell_calculation a (sign Kind.Tilde s ∷ w)) (calculation_not 126 refl refl refl refl refl refl a (sign Kind.Tilde s ∷ w)) (reads_calculation a (refl, refl, refl) (reads_counts_tilde s no_upper (past_upper 8 9 s.start w f.2 h)))
reads_counts (at_most s b) {w} f h = record { read = λ st. onward _ ((reads_calculation b f.0 (past_sign 10 s.start 0 w h)).read _) }
reads_counts (span a s b) {w} f h = begin_counts (spell_calculation a (sign Kind.Tilde s ∷ spell_calculation b w)) (calculation_not 126 refl refl refl refl refl refl a (sign Kind.Tilde s ∷ spell_calculation b w)) (reads_calculation a (refl, refl, refl) (reads_counts_tilde s (an_upper b) (reads_upper 8 9 s.start b f.0 h)))

-- a repetition mark
pub reads_mark : (p i : ℕ) (m : Mark) {w : List Lexeme} {ks : List Symbol} {g : Ground ks} {r : Rests ks} → Reads w ks g r → Reads (spell_mark m w) (Symbol.marked p i ∷ ks) g (a_mark m, r)
unfolding reading spell_mark
reads_mark p i (optional s) h = record { read = λ st. onward _ (h.read _) }
reads_mark p i (any_number s) h = record { read = λ st. onward _ (h.read _) }
reads_mark p i (one_or_more s) h = record { read = λ st. onward _ (h.read _) }
reads_mark p i (counted o n c) {w} {ks} {g} {r} h = record { read = λ st. onward _ ((reads_counts n ((refl, refl, refl), refl, refl) (close st)).read _) }
  where
    close : (st : State) → Reads (sign Kind.CloseBrace c ∷ w) (Symbol.counts_end p i o.start (terms_of st) ∷ ks) g (c, r)
    close st = record { read = λ st. onward _ (h.read _) }

-- ---- conditions

comparison_after : (i : Comparison) (s : Sign) (w : List Lexeme) → AfterSum (sign (comparison_sign i) s ∷ w)
comparison_after equal s w = (refl, refl, refl)
comparison_after unequal s w = (refl, refl, refl)
comparison_after less s w = (refl, refl, refl)
comparison_after at_most_as s w = (refl, refl, refl)
comparison_after greater s w = (refl, refl, refl)
comparison_after at_least_as s w = (refl, refl, refl)

reads_comparison : (i : Comparison) (s : Sign) (b : Calculation) {w : List Lexeme} {ks : List Symbol} {g : Ground ks} {r : Rests ks} → AfterSum w → Reads w ks g r → Reads (sign (comparison_sign i) s ∷ spell_calculation b w) (Symbol.comparison ∷ ks) g ((i, s, b), r)
unfolding reading
reads_comparison equal s b {w} f h = record { read = λ st. onward _ ((reads_calculation b f (past_sign 14 s.start 0 w h)).read _) }
reads_comparison unequal s b {w} f h = record { read = λ st. onward _ ((reads_calculation b f (past_sign 15 s.start 0 w h)).read _) }
reads_comparison less s b {w} f h = record { read = λ st. onward _ ((reads_calculation b f (past_sign 16 s.start 0 w h)).read _) }
reads_comparison at_most_as s b {w} f h = record { read = λ st. onward _ ((reads_calculation b f (past_sign 17 s.start 0 w h)).read _) }
reads_comparison greater s b {w} f h = record { read = λ st. onward _ ((reads_calculation b f (past_sign 18 s.start 0 w h)).read _) }
reads_comparison at_least_as s b {w} f h = record { read = λ st. onward _ ((reads_calculation b f (past_sign 19 s.start 0 w h)).read _) }

-- the first of joined tests, and those after it
abbrev pub first_and : {d : ℕ} → Tests conjuncts d → Tests test d
first_and (last_conjunct a) = a
first_and (and_conjuncts a s b) = a

unfoldable pub rest_and : {d : ℕ} → Tests conjuncts d → Links d
rest_and (last_conjunct a) = no_link
rest_and (and_conjuncts a s b) = link s (first_and b) (rest_and b)

same_and : {d : ℕ} (b : Tests conjuncts d) → all_from (first_and b) (rest_and b) ≡ b
unfolding rest_and all_from
same_and (last_conjunct a) = refl
same_and (and_conjuncts a s b) = ap (and_conjuncts a s) (same_and b)

abbrev pub first_or : {d : ℕ} → Tests disjuncts d → Tests test d
first_or (last_disjunct a) = a
first_or (or_disjuncts a s b) = a

unfoldable pub rest_or : {d : ℕ} → Tests disjuncts d → Links d
rest_or (last_disjunct a) = no_link
rest_or (or_disjuncts a s b) = link s (first_or b) (rest_or b)

same_or : {d : ℕ} (b : Tests disjuncts d) → any_from (first_or b) (rest_or b) ≡ b
unfolding rest_or any_from
same_or (last_disjunct a) = refl
same_or (or_disjuncts a s b) = ap (or_disjuncts a s) (same_or b)

abbrev pub TestReads : (p : TestPart) (d : ℕ) → Tests p d → Type 0
TestReads test d a = (w : List Lexeme) (ks : List Symbol) (g : Ground ks) (r : Rests ks) → AfterSum w → Reads w ks g r → Reads (spell_tests a w) (Symbol.test d ∷ ks) g (a, r)
TestReads tests d a = (w : List Lexeme) (ks : List Symbol) (g : Ground ks) (r : Rests ks) → AfterTests w → Reads w ks g r → Reads (spell_tests a w) (Symbol.condition d ∷ ks) g (a, r)
TestReads conjuncts d a = (w : List Lexeme) (ks : List Symbol) (g : Ground ks) (r : Rests ks) → AfterTests w → Reads w ks g r → (p : ℕ) → Reads (spell_tests a w) (Symbol.test d ∷ Symbol.sign 13 p 0 ∷ Symbol.chain 38 13 d ∷ ks) (refl, g) (first_and a, (tt, (rest_and a, r)))
TestReads disjuncts d a = (w : List Lexeme) (ks : List Symbol) (g : Ground ks) (r : Rests ks) → AfterTests w → Reads w ks g r → (p : ℕ) → Reads (spell_tests a w) (Symbol.test d ∷ Symbol.sign 11 p 0 ∷ Symbol.chain 124 11 d ∷ ks) (refl, g) (first_or a, (tt, (rest_or a, r)))

reads_test_group : (d : ℕ) (l : d < 16) (o : Sign) (a : Tests tests (d + 1)) (c : Sign) {w : List Lexeme} {ks : List Symbol} {g : Ground ks} {r : Rests ks} → Reads w (Symbol.condition (d + 1) ∷ Symbol.want 41 ∷ ks) (refl, g) (a, (c, r)) → Reads (sign Kind.OpenParen o ∷ w) (Symbol.test d ∷ ks) g (test_group l o a c, r)
unfolding reading
reads_test_group d l o a c {r = r} h = record { read = λ st. cond_on _ _ _ _ (lt-ltb d 16 l) (λ u. onward _ (h.read _) ∙ λ i. tree (test_group (le_prop (ltb-true d 16 u) l i) o a c, r)) }

reads_and : (d : ℕ) (s : Sign) (b : Tests conjuncts d) {w : List Lexeme} {ks : List Symbol} {g : Ground ks} {r : Rests ks} → Reads w (Symbol.test d ∷ Symbol.sign 13 s.start 0 ∷ Symbol.chain 38 13 d ∷ ks) (refl, g) (first_and b, (tt, (rest_and b, r))) → Reads (sign Kind.Ampersand s ∷ w) (Symbol.joined d ∷ ks) g (by_and s b, r)
unfolding reading
reads_and d s b {r = r} h = record { read = λ st. onward _ (h.read _) ∙ λ i. tree (by_and s (same_and b i), r) }

reads_or : (d : ℕ) (s : Sign) (b : Tests disjuncts d) {w : List Lexeme} {ks : List Symbol} {g : Ground ks} {r : Rests ks} → Reads w (Symbol.test d ∷ Symbol.sign 11 s.start 0 ∷ Symbol.chain 124 11 d ∷ ks) (refl, g) (first_or b, (tt, (rest_or b, r))) → Reads (sign Kind.Bar s ∷ w) (Symbol.joined d ∷ ks) g (by_or s b, r)
unfolding reading
reads_or d s b {r = r} h = record { read = λ st. onward _ (h.read _) ∙ λ i. tree (by_or s (same_or b i), r) }

reads_more_and : (d : ℕ) (s : Sign) (a : Tests test d) (m : Links d) {w : List Lexeme} {ks : List Symbol} {g : Ground ks} {r : Rests ks} → Reads w (Symbol.test d ∷ Symbol.sign 13 s.start 0 ∷ Symbol.chain 38 13 d ∷ ks) (refl, g) (a, (tt, (m, r))) → Reads (sign Kind.Ampersand s ∷ w) (Symbol.chain 38 13 d ∷ ks) (refl, g) (link s a m, r)
unfolding reading
reads_more_and d s a m h = record { read = λ st. onward _ (h.read _) }

reads_more_or : (d : ℕ) (s : Sign) (a : Tests test d) (m : Links d) {w : List Lexeme} {ks : List Symbol} {g : Ground ks} {r : Rests ks} → Reads w (Symbol.test d ∷ Symbol.sign 11 s.start 0 ∷ Symbol.chain 124 11 d ∷ ks) (refl, g) (a, (tt, (m, r))) → Reads (sign Kind.Bar s ∷ w) (Symbol.chain 124 11 d ∷ ks) (refl, g) (link s a m, r)
unfolding reading
reads_more_or d s a m h = record { read = λ st. onward _ (h.read _) }

pub reads_tests : {p : TestPart} {d : ℕ} (a : Tests p d) → TestReads p d a
unfolding spell_tests rest_and rest_or
reads_tests (compare {d} a i s b) =
    λ w ks g r f h.
    begin_test d (spell_calculation a (sign (comparison_sign i) s ∷ spell_calculation b w)) (calculation_not 40 refl refl refl refl refl refl a (sign (comparison_sign i) s ∷ spell_calculation b w))
    (reads_calculation a (comparison_after i s (spell_calculation b w)) (reads_comparison i s b f h))
reads_tests (test_group {d} l o a c) = λ w ks g r f h. reads_test_group d l o a c (reads_tests a (sign Kind.CloseParen c ∷ w) (Symbol.want 41 ∷ ks) (refl, g) (c, r) ((refl, refl, refl), refl, refl) (reads_close c h))
reads_tests (one_test {d} a) = λ w ks g r f h. begin_condition d (spell_tests a w) (reads_tests a w (Symbol.joined d ∷ ks) g (not_joined, r) f.0 (past_joined d w f.1 f.2 h))
reads_tests (all_of {d} a s b) = λ w ks g r f h. begin_condition d (spell_tests a (sign Kind.Ampersand s ∷ spell_tests b w)) (reads_tests a (sign Kind.Ampersand s ∷ spell_tests b w) (Symbol.joined d ∷ ks) g (by_and s b, r) (refl, refl, refl) (reads_and d s b (reads_tests b w ks g r f h s.start)))
reads_tests (any_of {d} a s b) = λ w ks g r f h. begin_condition d (spell_tests a (sign Kind.Bar s ∷ spell_tests b w)) (reads_tests a (sign Kind.Bar s ∷ spell_tests b w) (Symbol.joined d ∷ ks) g (by_or s b, r) (refl, refl, refl) (reads_or d s b (reads_tests b w ks g r f h s.start)))
reads_tests (last_conjunct {d} a) = λ w ks g r f h p. reads_tests a w (Symbol.sign 13 p 0 ∷ Symbol.chain 38 13 d ∷ ks) (refl, g) (tt, (no_link, r)) f.0 (past_sign 13 p 0 w (past_chain 38 13 d refl w f.1 h))
reads_tests (and_conjuncts {d} a s b) =
    λ w ks g r f h p.
    reads_tests a (sign Kind.Ampersand s ∷ spell_tests b w) (Symbol.sign 13 p 0 ∷ Symbol.chain 38 13 d ∷ ks) (refl, g) (tt, (link s (first_and b) (rest_and b), r)) (refl, refl, refl)
    (past_sign 13 p 0 (sign Kind.Ampersand s ∷ spell_tests b w) (reads_more_and d s (first_and b) (rest_and b) (reads_tests b w ks g r f h s.start)))
reads_tests (last_disjunct {d} a) = λ w ks g r f h p. reads_tests a w (Symbol.sign 11 p 0 ∷ Symbol.chain 124 11 d ∷ ks) (refl, g) (tt, (no_link, r)) f.0 (past_sign 11 p 0 w (past_chain 124 11 d refl w f.2 h))
reads_tests (or_disjuncts {d} a s b) =
    λ w ks g r f h p.
    reads_tests a (sign Kind.Bar s ∷ spell_tests b w) (Symbol.sign 11 p 0 ∷ Symbol.chain 124 11 d ∷ ks) (refl, g) (tt, (link s (first_or b) (rest_or b), r)) (refl, refl, refl)
    (past_sign 11 p 0 (sign Kind.Bar s ∷ spell_tests b w) (reads_more_or d s (first_or b) (rest_or b) (reads_tests b w ks g r f h s.start)))
