-- The spelling of rules is read as these rules.
-- Assumes nothing.
use Prim.Native.Nat.{ℕ, ◌+◌, ◌<◌}
use mathlib.Core.Path.{◌≡◌, refl, sym, subst, ◌∙◌}
use mathlib.Core.Bool.{Bool, true, false, cond}
use mathlib.Core.List.{List, [], ◌∷◌}
use native.Mathlib.Omega.{arith}
use borrow.Author.Tests.{ltb-true, lt-ltb, eqb-false}
use lib.Dec.{eqb}
use lib.ListN.{length}
use Rattle.basis.proofs.Booleans.{picked}
use Rattle.text_tokens.specs.declared.Kind.{Kind}
use Rattle.text_store.specs.Store.{State, nodes_of, terms_of}
use Rattle.text_parsing.specs.Symbols.{Symbol}
use Rattle.tree.specs.Lexemes.{Sign, Name, Number, Literal, Lexeme, sign, word, numeral, quoted, finish}
use Rattle.tree.specs.Tree.{whole, Choices, tests, Tests, Mark, optional, any_number, one_or_more, counted, eod_word, Single, Part, expression, concatenation, factor, atom, cases, Tree, literal, range, field, binder, rule_use, eod, group, switch, last_case, case_default, case_cases, once, repeated, last_member, and_members, last_branch, or_branches, rule, Rules, last_rule, and_rules}
use Rattle.tree.specs.Spelling.{field_word, var_word, spelled_as, spell_set, spell_mark, spell, spell_rule, spell_rules, spelled}
use Rattle.tree_form.proofs.Classified.{code, opens}
use Rattle.tree_form.proofs.Rests.{no_mark, a_mark, MoreMembers, no_member, more_members, MoreBranches, no_branch, more_branches, to_character, FieldSet, plain_set, bound_set, MoreCases, no_case, default, more_cases, MoreRules, no_rule, more_rules, Rests, Ground}
use Rattle.tree_form.proofs.Words.{is_single, is_other, plain_name, word_has}
use Rattle.tree_form.proofs.Parts.{members_from, branches_from, field_from, closing, cases_from, rules_from}
use Rattle.tree_form.proofs.Leading.{consumed}
use Rattle.tree_form.proofs.Reading.{tree, after, parse, reading}
use mathlib.Core.Bool.{Bool-set}
use native.Mathlib.Nat.{ℕ_set}
use native.Mathlib.Bridge.{le_prop}
use Rattle.text_header.specs.Spans.{starts}
use Rattle.text_tokens.specs.Names.{word_number, is_same}
use Rattle.tree_form.proofs.Skips.{Reads, Not, onward, test_on, cond_on, past_mark, past_members, past_branches, past_character, begin_factor, begin_concatenation, begin_expression, begin_field_set, begin_cases}
use Rattle.tree_form.proofs.Traced.{AfterAtom, AfterFactor, AfterMembers, AfterBranches, cases_not, set_not_var, reads_close, reads_value_set, reads_field_set, reads_mark, reads_tests}

-- ---- tokens whose code depends on what they hold

-- a literal has one of two codes
quoted_has : (l : Literal) (next : Bool) (P : (c : ℕ) → code (quoted l) next ≡ c → Type 0) → ((e : code (quoted l) next ≡ 9) → P 9 e) → (eqb (length l.characters) 1 ≡ false → (e : code (quoted l) next ≡ 3) → P 3 e) → (c : ℕ) (e : code (quoted l) next ≡ c) → P c e
quoted_has l next P a b c z =
    picked (λ (v : ℕ). v ≡ c → P c z) (eqb (length l.characters) 1) (λ t. by 9 a) (λ t. by 3 (b t)) z
  where
    by : (k : ℕ) → ((e : code (quoted l) next ≡ k) → P k e) → k ≡ c → P c z
    by k h y = subst (λ (v : ℕ). (e : code (quoted l) next ≡ v) → P v e) y h z

not_single : {A : Type 0} (l : Literal) → Single l → eqb (length l.characters) 1 ≡ false → A
not_single l one f = absurd (eqb-false (length l.characters) 1 f one)

reads_literal : (d : ℕ) (l : Literal) {w : List Lexeme} {ks : List Symbol} {g : Ground ks} {r : Rests ks} → Not 126 w → Reads w ks g r → Reads (quoted l ∷ w) (Symbol.atom d ∷ ks) g (literal l, r)
unfolding reading
reads_literal d l {w} {ks} {g} {r} f h =
    record { read = λ st. quoted_has l (opens w) (λ c e. after (λ st' ks' g'. parse w st' ks' g') (consumed (quoted l) (opens w) c e (Symbol.atom d ∷ ks) st g) ≡ tree (literal l, r)) (λ e. onward _ ((past_character l.start w f h).read _)) (λ t e. onward _ (h.read _)) (code (quoted l) (opens w)) refl }

reads_last_character : (p : ℕ) (l : Literal) (one : Single l) {w : List Lexeme} {ks : List Symbol} {g : Ground ks} {r : Rests ks} → Reads w ks g r → Reads (quoted l ∷ w) (Symbol.last_character p ∷ ks) g ((l, one), r)
unfolding reading
reads_last_character p l one {w} {ks} {g} {r} h =
    record { read = λ st. quoted_has l (opens w) (λ c e. after (λ st' ks' g'. parse w st' ks' g') (consumed (quoted l) (opens w) c e (Symbol.last_character p ∷ ks) st g) ≡ tree ((l, one), r)) (λ e. onward _ (h.read _) ∙ λ i. tree ((l, ℕ_set (length l.characters) 1 (is_single (quoted l) (opens w) 9 e refl) one i), r)) (λ t e. not_single l one t) (code (quoted l) (opens w)) refl }

reads_to_character : (p : ℕ) (s : Sign) (l : Literal) (one : Single l) {w : List Lexeme} {ks : List Symbol} {g : Ground ks} {r : Rests ks} → Reads w (Symbol.last_character p ∷ ks) g ((l, one), r) → Reads (sign Kind.Tilde s ∷ w) (Symbol.character_tail p ∷ ks) g (to_character s l one, r)
unfolding reading
reads_to_character p s l one h = record { read = λ st. onward _ (h.read _) }

reads_range : (d : ℕ) (a : Literal) (s : Sign) (b : Literal) (one : Single a) (one' : Single b) {w : List Lexeme} {ks : List Symbol} {g : Ground ks} {r : Rests ks} → Reads w (Symbol.character_tail a.start ∷ ks) g (to_character s b one', r) → Reads (quoted a ∷ w) (Symbol.atom d ∷ ks) g (range a s b one one', r)
unfolding reading
reads_range d a s b one one' {w} {ks} {g} {r} h =
    record { read = λ st. quoted_has a (opens w) (λ c e. after (λ st' ks' g'. parse w st' ks' g') (consumed (quoted a) (opens w) c e (Symbol.atom d ∷ ks) st g) ≡ tree (range a s b one one', r)) (λ e. onward _ (h.read _) ∙ λ i. tree (range a s b (ℕ_set (length a.characters) 1 (is_single (quoted a) (opens w) 9 e refl) one i) one', r)) (λ t e. not_single a one t) (code (quoted a) (opens w)) refl }

-- a rule's name, which is not `eod`, and which no `(` follows
not_one : {A : Type 0} (x : Name) (next : Bool) → next ≡ false → is_same eod_word x.letters ≡ false → (k : ℕ) → eqb 1 k ≡ false → code (word x) next ≡ k → A
not_one x true n f k t e = let z : ◌≡◌ {A = ℕ} 0 1 = cc in absurd (omega arith)
not_one x false n f k t e = absurd (eqb-false 1 k t (sym (plain_name x f) ∙ e))

reads_use : (d : ℕ) (x : Name) (other : is_same eod_word x.letters ≡ false) {w : List Lexeme} {ks : List Symbol} {g : Ground ks} {r : Rests ks} → opens w ≡ false → Reads w ks g r → Reads (word x ∷ w) (Symbol.atom d ∷ ks) g (rule_use x other, r)
unfolding reading
reads_use d x other {w} {ks} {g} {r} f h =
    record { read = λ st. word_has x (opens w) (λ c e. after (λ st' ks' g'. parse w st' ks' g') (consumed (word x) (opens w) c e (Symbol.atom d ∷ ks) st g) ≡ tree (rule_use x other, r)) (λ e. onward _ (h.read _) ∙ λ i. tree (rule_use x (Bool-set (is_same eod_word x.letters) false (is_other (word x) (opens w) 1 e refl refl) other i), r)) (λ e. not_one x (opens w) f other 6 refl e) (λ e. not_one x (opens w) f other 7 refl e) (λ e. not_one x (opens w) f other 8 refl e) (code (word x) (opens w)) refl }

reads_eod : (d : ℕ) (s : Sign) {w : List Lexeme} {ks : List Symbol} {g : Ground ks} {r : Rests ks} → Reads w ks g r → Reads (spelled_as eod_word s ∷ w) (Symbol.atom d ∷ ks) g (eod s, r)
unfolding reading word_number starts
reads_eod d s h = record { read = λ st. onward _ (h.read _) }

-- ---- fields

reads_paren : (d : ℕ) (l : d < 16) (o : Sign) {w : List Lexeme} {ks : List Symbol} {g : Ground ks} {r : Rests ks} → Reads w ks g r → Reads (sign Kind.OpenParen o ∷ w) (Symbol.paren d ∷ ks) g ((l, o), r)
unfolding reading
reads_paren d l o {r = r} h = record { read = λ st. test_on _ _ _ _ (lt-ltb d 16 l) (λ u. onward _ (h.read _) ∙ λ i. tree ((le_prop (ltb-true d 16 u) l i, o), r)) }

reads_comma : (m : Sign) {w : List Lexeme} {ks : List Symbol} {g : Ground ks} {r : Rests ks} → Reads w ks g r → Reads (sign Kind.Comma m ∷ w) (Symbol.want 44 ∷ ks) (refl, g) (m, r)
unfolding reading
reads_comma m h = record { read = λ st. onward _ (h.read _) }

reads_width : (d p : ℕ) (n : Number) (m : Sign) (x : FieldSet d) {w : List Lexeme} {ks : List Symbol} {g : Ground ks} {r : Rests ks} → Reads w (Symbol.field_set d p n.start ∷ ks) g (x, r) → Reads (numeral n ∷ sign Kind.Comma m ∷ w) (Symbol.width d p ∷ ks) g ((n, m, x), r)
unfolding reading
reads_width d p n m x h = record { read = λ st. onward _ ((reads_comma m h).read _) }

reads_uint : (signed : Bool) (d : ℕ) (l : d < 16) (u o : Sign) (n : Number) (m : Sign) (x : FieldSet (d + 1)) {w : List Lexeme} {ks : List Symbol} {g : Ground ks} {r : Rests ks} → Reads (sign Kind.OpenParen o ∷ w) (Symbol.paren d ∷ Symbol.width (d + 1) u.start ∷ ks) g ((l, o), ((n, m, x), r)) → Reads (spelled_as (field_word signed) u ∷ sign Kind.OpenParen o ∷ w) (Symbol.atom d ∷ ks) g (field_from signed l u o n m x, r)
unfolding reading word_number starts
reads_uint true d l u o n m x h = record { read = λ st. onward _ (h.read _) }
reads_uint false d l u o n m x h = record { read = λ st. onward _ (h.read _) }

reads_bound_name : (d p v : ℕ) (x : Name) (m : Sign) (y : Choices whole d) (c c' : Sign) {w : List Lexeme} {ks : List Symbol} {g : Ground ks} {r : Rests ks} → Reads w ks g r → Reads (word x ∷ sign Kind.Comma m ∷ spell_set y (sign Kind.CloseParen c ∷ sign Kind.CloseParen c' ∷ w)) (Symbol.bound_name d p v ∷ ks) g ((x, m, y, c, c'), r)
unfolding reading
reads_bound_name d p v x m y c c' {w} {ks} {g} {r} h =
    record { read = λ st. word_has x false (λ k e. after (λ st' ks' g'. parse rest st' ks' g') (consumed (word x) false k e (Symbol.bound_name d p v ∷ ks) st g) ≡ tree ((x, m, y, c, c'), r)) (λ e. onward _ ((inner st).read _)) (λ e. onward _ ((inner st).read _)) (λ e. onward _ ((inner st).read _)) (λ e. onward _ ((inner st).read _)) (code (word x) false) refl }
  where
    rest : List Lexeme
    rest = sign Kind.Comma m ∷ spell_set y (sign Kind.CloseParen c ∷ sign Kind.CloseParen c' ∷ w)

    last : (st : State) → Reads (sign Kind.CloseParen c' ∷ w) (Symbol.field_end p v x.start (cond (eqb d 2) 1 2) (terms_of st) ∷ ks) g (c', r)
    last st = record { read = λ z. onward _ (h.read _) }

    inner : (st : State) → Reads rest (Symbol.want 44 ∷ Symbol.value_set d ∷ Symbol.want 41 ∷ Symbol.field_end p v x.start (cond (eqb d 2) 1 2) (terms_of st) ∷ ks) (refl, (refl, g)) (m, (y, (c, (c', r))))
    inner st = reads_comma m (reads_value_set d y c (last st))

reads_var : (d p v : ℕ) (l : d < 16) (z o : Sign) (x : Name) (m : Sign) (y : Choices whole (d + 1)) (c c' : Sign) {w : List Lexeme} {ks : List Symbol} {g : Ground ks} {r : Rests ks} → Reads w ks g r → Reads (spelled_as var_word z ∷ sign Kind.OpenParen o ∷ word x ∷ sign Kind.Comma m ∷ spell_set y (sign Kind.CloseParen c ∷ sign Kind.CloseParen c' ∷ w)) (Symbol.field_set d p v ∷ ks) g (bound_set l z o x m y c c', r)
unfolding reading word_number starts
reads_var d p v l z o x m y c c' h = record { read = λ st. onward _ ((reads_paren d l o (reads_bound_name (d + 1) p v x m y c c' h)).read _) }

-- ---- groups and switches

reads_group : (d : ℕ) (l : d < 16) (o : Sign) (x : Tree expression (d + 1)) (c : Sign) {w : List Lexeme} {ks : List Symbol} {g : Ground ks} {r : Rests ks} → Reads w (Symbol.expression (d + 1) ∷ Symbol.want 41 ∷ ks) (refl, g) (x, (c, r)) → Reads (sign Kind.OpenParen o ∷ w) (Symbol.atom d ∷ ks) g (group l o x c, r)
unfolding reading
reads_group d l o x c {r = r} h = record { read = λ st. cond_on _ _ _ _ (lt-ltb d 16 l) (λ u. onward _ (h.read _) ∙ λ i. tree (group (le_prop (ltb-true d 16 u) l i) o x c, r)) }

-- the first condition of a switch, its body, and what follows; c is the closing bracket
abbrev first_condition : {d : ℕ} → Tree cases d → Tests tests d
first_condition (last_case t s x e) = t
first_condition (case_default t s x e s' y e') = t
first_condition (case_cases t s x e y) = t

abbrev first_body : {d : ℕ} → Tree cases d → Sign × Tree expression d × Sign
first_body (last_case t s x e) = (s, x, e)
first_body (case_default t s x e s' y e') = (s, x, e)
first_body (case_cases t s x e y) = (s, x, e)

abbrev rest_cases : {d : ℕ} → Tree cases d → Sign → MoreCases d
rest_cases (last_case t s x e) c = no_case c
rest_cases (case_default t s x e s' y e') c = default s' y e' c
rest_cases (case_cases t s x e y) c = more_cases y c

same_switch : {d : ℕ} (l : d < 16) (o : Sign) (a : Tree cases (d + 1)) (c : Sign) → switch l o (cases_from (first_condition a) (first_body a).0 (first_body a).1 (first_body a).2 (rest_cases a c)) (closing (rest_cases a c)) ≡ switch l o a c
same_switch l o (last_case t s x e) c = refl
same_switch l o (case_default t s x e s' y e') c = refl
same_switch l o (case_cases t s x e y) c = refl

same_cases : {d : ℕ} (a : Tree cases d) (c : Sign) → more_cases (cases_from (first_condition a) (first_body a).0 (first_body a).1 (first_body a).2 (rest_cases a c)) (closing (rest_cases a c)) ≡ more_cases a c
same_cases (last_case t s x e) c = refl
same_cases (case_default t s x e s' y e') c = refl
same_cases (case_cases t s x e y) c = refl

reads_switch : (d : ℕ) (l : d < 16) (o : Sign) (a : Tree cases (d + 1)) (c : Sign) {w : List Lexeme} {ks : List Symbol} {g : Ground ks} {r : Rests ks} → ((f p i : ℕ) → Reads w (Symbol.condition (d + 1) ∷ Symbol.colon (d + 1) f ∷ Symbol.cases (d + 1) p i ∷ ks) g (first_condition a, (first_body a, (rest_cases a c, r)))) → Reads (sign Kind.OpenBracket o ∷ w) (Symbol.atom d ∷ ks) g (switch l o a c, r)
unfolding reading
reads_switch d l o a c {r = r} h = record { read = λ st. cond_on _ _ _ _ (lt-ltb d 16 l) (λ u. onward _ ((h (terms_of st) o.start (nodes_of st)).read _) ∙ (λ i. tree (same_switch (ltb-true d 16 u) o a c i, r)) ∙ λ i. tree (switch (le_prop (ltb-true d 16 u) l i) o a c, r)) }

reads_colon : (d f : ℕ) (s : Sign) (x : Tree expression d) (e : Sign) {w : List Lexeme} {ks : List Symbol} {g : Ground ks} {r : Rests ks} → ((i t : ℕ) → Reads w (Symbol.expression d ∷ Symbol.case_end i f t ∷ ks) g (x, (e, r))) → Reads (sign Kind.Colon s ∷ w) (Symbol.colon d f ∷ ks) g ((s, x, e), r)
unfolding reading
reads_colon d f s x e h = record { read = λ st. onward _ ((h (nodes_of st) (terms_of st)).read _) }

reads_case_end : (i f t : ℕ) (e : Sign) {w : List Lexeme} {ks : List Symbol} {g : Ground ks} {r : Rests ks} → Reads w ks g r → Reads (sign Kind.Semicolon e ∷ w) (Symbol.case_end i f t ∷ ks) g (e, r)
unfolding reading
reads_case_end i f t e h = record { read = λ st. onward _ (h.read _) }

reads_no_case : (d p i : ℕ) (c : Sign) {w : List Lexeme} {ks : List Symbol} {g : Ground ks} {r : Rests ks} → Reads w ks g r → Reads (sign Kind.CloseBracket c ∷ w) (Symbol.cases d p i ∷ ks) g (no_case c, r)
unfolding reading
reads_no_case d p i c h = record { read = λ st. onward _ (h.read _) }

reads_default : (d p i : ℕ) (s : Sign) (y : Tree expression d) (e c : Sign) {w : List Lexeme} {ks : List Symbol} {g : Ground ks} {r : Rests ks} → Reads w (Symbol.expression d ∷ Symbol.want 59 ∷ Symbol.switch_end p i ∷ ks) (refl, g) (y, (e, (c, r))) → Reads (sign Kind.Colon s ∷ w) (Symbol.cases d p i ∷ ks) g (default s y e c, r)
unfolding reading
reads_default d p i s y e c h = record { read = λ st. onward _ (h.read _) }

reads_default_end : (p i : ℕ) (e c : Sign) {w : List Lexeme} {ks : List Symbol} {g : Ground ks} {r : Rests ks} → Reads w ks g r → Reads (sign Kind.Semicolon e ∷ sign Kind.CloseBracket c ∷ w) (Symbol.want 59 ∷ Symbol.switch_end p i ∷ ks) (refl, g) (e, (c, r))
unfolding reading
reads_default_end p i e c h = record { read = λ st. onward _ (onward _ (h.read _)) }

-- ---- chains

abbrev first_member : {d : ℕ} → Tree concatenation d → Tree factor d
first_member (last_member a) = a
first_member (and_members a s b) = a

abbrev rest_members : {d : ℕ} → Tree concatenation d → MoreMembers d
rest_members (last_member a) = no_member
rest_members (and_members a s b) = more_members s b

same_members : {d : ℕ} (a : Tree concatenation d) → members_from (first_member a) (rest_members a) ≡ a
same_members (last_member a) = refl
same_members (and_members a s b) = refl

abbrev first_branch : {d : ℕ} → Tree expression d → Tree concatenation d
first_branch (last_branch a) = a
first_branch (or_branches a s b) = a

abbrev rest_branches : {d : ℕ} → Tree expression d → MoreBranches d
rest_branches (last_branch a) = no_branch
rest_branches (or_branches a s b) = more_branches s b

same_branches : {d : ℕ} (a : Tree expression d) → branches_from (first_branch a) (rest_branches a) ≡ a
same_branches (last_branch a) = refl
same_branches (or_branches a s b) = refl

abbrev TreeReads : (p : Part) (d : ℕ) → Tree p d → Type 0
TreeReads atom d a = (w : List Lexeme) (ks : List Symbol) (g : Ground ks) (r : Rests ks) → AfterAtom w → Reads w ks g r → Reads (spell a w) (Symbol.atom d ∷ ks) g (a, r)
TreeReads factor d a = (w : List Lexeme) (ks : List Symbol) (g : Ground ks) (r : Rests ks) → AfterFactor w → Reads w ks g r → Reads (spell a w) (Symbol.factor d ∷ ks) g (a, r)
TreeReads concatenation d a = (w : List Lexeme) (ks : List Symbol) (g : Ground ks) (r : Rests ks) → AfterMembers w → Reads w ks g r → (p i : ℕ) (many : Bool) → Reads (spell a w) (Symbol.factor d ∷ Symbol.members d p i many ∷ ks) g (first_member a, (rest_members a, r))
TreeReads expression d a = (w : List Lexeme) (ks : List Symbol) (g : Ground ks) (r : Rests ks) → AfterBranches w → Reads w ks g r → (p i : ℕ) (many : Bool) → Reads (spell a w) (Symbol.concatenation d ∷ Symbol.branches d p i many ∷ ks) g (first_branch a, (rest_branches a, r))
TreeReads cases d a = (w : List Lexeme) (ks : List Symbol) (g : Ground ks) (r : Rests ks) (c : Sign) → Reads w ks g r → (f p i : ℕ) → Reads (spell a (sign Kind.CloseBracket c ∷ w)) (Symbol.condition d ∷ Symbol.colon d f ∷ Symbol.cases d p i ∷ ks) g (first_condition a, (first_body a, (rest_cases a c, r)))

-- a whole concatenation, a whole expression
whole_members : (d : ℕ) (a : Tree concatenation d) → TreeReads concatenation d a → (w : List Lexeme) (ks : List Symbol) (g : Ground ks) (r : Rests ks) → AfterMembers w → Reads w ks g r → Reads (spell a w) (Symbol.concatenation d ∷ ks) g (a, r)
whole_members d a t w ks g r f h =
    subst (λ (z : Tree concatenation d). Reads (spell a w) (Symbol.concatenation d ∷ ks) g (z, r)) (same_members a) (begin_concatenation d (spell a w) (λ p i. t w ks g r f h p i false))

whole_branches : (d : ℕ) (a : Tree expression d) → TreeReads expression d a → (w : List Lexeme) (ks : List Symbol) (g : Ground ks) (r : Rests ks) → AfterBranches w → Reads w ks g r → Reads (spell a w) (Symbol.expression d ∷ ks) g (a, r)
whole_branches d a t w ks g r f h =
    subst (λ (z : Tree expression d). Reads (spell a w) (Symbol.expression d ∷ ks) g (z, r)) (same_branches a) (begin_expression d (spell a w) (λ p i. t w ks g r f h p i false))

reads_member : (d p i : ℕ) (many : Bool) (s : Sign) (b : Tree concatenation d) {w : List Lexeme} {ks : List Symbol} {g : Ground ks} {r : Rests ks} → Reads w (Symbol.factor d ∷ Symbol.members d p i true ∷ ks) g (first_member b, (rest_members b, r)) → Reads (sign Kind.Ampersand s ∷ w) (Symbol.members d p i many ∷ ks) g (more_members s b, r)
unfolding reading
reads_member d p i many s b {r = r} h = record { read = λ st. onward _ (h.read _) ∙ λ k. tree (more_members s (same_members b k), r) }

reads_branch : (d p i : ℕ) (many : Bool) (s : Sign) (b : Tree expression d) {w : List Lexeme} {ks : List Symbol} {g : Ground ks} {r : Rests ks} → Reads w (Symbol.concatenation d ∷ Symbol.branches d p i true ∷ ks) g (first_branch b, (rest_branches b, r)) → Reads (sign Kind.Bar s ∷ w) (Symbol.branches d p i many ∷ ks) g (more_branches s b, r)
unfolding reading
reads_branch d p i many s b {r = r} h = record { read = λ st. onward _ (h.read _) ∙ λ k. tree (more_branches s (same_branches b k), r) }

mark_after : (m : Mark) (w : List Lexeme) → AfterAtom (spell_mark m w)
unfolding spell_mark
mark_after (optional s) w = (refl, refl)
mark_after (any_number s) w = (refl, refl)
mark_after (one_or_more s) w = (refl, refl)
mark_after (counted o n c) w = (refl, refl)

reads_tree : {p : Part} {d : ℕ} (a : Tree p d) → TreeReads p d a
unfolding spell
reads_tree (literal {d} l) = λ w ks g r f h. reads_literal d l f.0 h
reads_tree (range {d} a s b one one') = λ w ks g r f h. reads_range d a s b one one' (reads_to_character a.start s b one' (reads_last_character a.start b one' h))
reads_tree (field {d} signed l u o n m x c) =
    λ w ks g r f h.
    reads_uint signed d l u o n m (plain_set x c)
    (reads_paren d l o
    (reads_width (d + 1) u.start n m (plain_set x c)
    (begin_field_set (d + 1) u.start n.start (spell_set x (sign Kind.CloseParen c ∷ w)) (set_not_var x (sign Kind.CloseParen c ∷ w) refl) (λ t. reads_field_set (d + 1) u.start n.start 0 0 t x c h))))
reads_tree (binder {d} signed l u o n m v o' x m' y c c') =
    λ w ks g r f h.
    let k : d < 16 = omega arith
    in reads_uint signed d k u o n m (bound_set l v o' x m' y c c')
    (reads_paren d k o (reads_width (d + 1) u.start n m (bound_set l v o' x m' y c c') (reads_var (d + 1) u.start n.start l v o' x m' y c c' h)))
reads_tree (rule_use {d} x other) = λ w ks g r f h. reads_use d x other f.1 h
reads_tree (eod {d} s) = λ w ks g r f h. reads_eod d s h
reads_tree (group {d} l o x c) = λ w ks g r f h. reads_group d l o x c (whole_branches (d + 1) x (reads_tree x) (sign Kind.CloseParen c ∷ w) (Symbol.want 41 ∷ ks) (refl, g) (c, r) ((((refl, refl), refl, refl, refl, refl), refl), refl) (reads_close c h))
reads_tree (switch {d} l o x c) = λ w ks g r f h. reads_switch d l o x c (reads_tree x w ks g r c h)
reads_tree (last_case {d} t s x e) =
    λ w ks g r c h f p i.
    reads_tests t (sign Kind.Colon s ∷ spell x (sign Kind.Semicolon e ∷ sign Kind.CloseBracket c ∷ w)) (Symbol.colon d f ∷ Symbol.cases d p i ∷ ks) g ((s, x, e), (no_case c, r)) ((refl, refl, refl), refl, refl)
    (reads_colon d f s x e (λ i' t'. whole_branches d x (reads_tree x) (sign Kind.Semicolon e ∷ sign Kind.CloseBracket c ∷ w) (Symbol.case_end i' f t' ∷ Symbol.cases d p i ∷ ks) g (e, (no_case c, r)) ((((refl, refl), refl, refl, refl, refl), refl), refl) (reads_case_end i' f t' e (reads_no_case d p i c h))))
reads_tree (case_default {d} t s x e s' y e') =
    λ w ks g r c h f p i.
    let W : List Lexeme = sign Kind.Colon s' ∷ spell y (sign Kind.Semicolon e' ∷ sign Kind.CloseBracket c ∷ w)
    in reads_tests t (sign Kind.Colon s ∷ spell x (sign Kind.Semicolon e ∷ W)) (Symbol.colon d f ∷ Symbol.cases d p i ∷ ks) g ((s, x, e), (default s' y e' c, r)) ((refl, refl, refl), refl, refl)
    (reads_colon d f s x e (λ i' t'. whole_branches d x (reads_tree x) (sign Kind.Semicolon e ∷ W) (Symbol.case_end i' f t' ∷ Symbol.cases d p i ∷ ks) g (e, (default s' y e' c, r)) ((((refl, refl), refl, refl, refl, refl), refl), refl)
    (reads_case_end i' f t' e (reads_default d p i s' y e' c (whole_branches d y (reads_tree y) (sign Kind.Semicolon e' ∷ sign Kind.CloseBracket c ∷ w) (Symbol.want 59 ∷ Symbol.switch_end p i ∷ ks) (refl, g) (e', (c, r)) ((((refl, refl), refl, refl, refl, refl), refl), refl) (reads_default_end p i e' c h))))))
reads_tree (case_cases {d} t s x e y) =
    λ w ks g r c h f p i.
    reads_tests t (sign Kind.Colon s ∷ spell x (sign Kind.Semicolon e ∷ spell y (sign Kind.CloseBracket c ∷ w))) (Symbol.colon d f ∷ Symbol.cases d p i ∷ ks) g ((s, x, e), (more_cases y c, r)) ((refl, refl, refl), refl, refl)
    (reads_colon d f s x e (λ i' t'. whole_branches d x (reads_tree x) (sign Kind.Semicolon e ∷ spell y (sign Kind.CloseBracket c ∷ w)) (Symbol.case_end i' f t' ∷ Symbol.cases d p i ∷ ks) g (e, (more_cases y c, r)) ((((refl, refl), refl, refl, refl, refl), refl), refl)
    (reads_case_end i' f t' e
    (subst (λ (z : MoreCases d). Reads (spell y (sign Kind.CloseBracket c ∷ w)) (Symbol.cases d p i ∷ ks) g (z, r)) (same_cases y c)
    (begin_cases d p i (spell y (sign Kind.CloseBracket c ∷ w)) (cases_not 93 refl refl refl refl refl refl refl y (sign Kind.CloseBracket c ∷ w)) (cases_not 58 refl refl refl refl refl refl refl y (sign Kind.CloseBracket c ∷ w)) (λ f'. reads_tree y w ks g r c h f' p i))))))
reads_tree (once {d} a) = λ w ks g r f h. begin_factor d (spell a w) (λ p i. reads_tree a w (Symbol.marked p i ∷ ks) g (no_mark, r) f.0 (past_mark p i w f.1 f.2 f.3 f.4 h))
reads_tree (repeated {d} a m) = λ w ks g r f h. begin_factor d (spell a (spell_mark m w)) (λ p i. reads_tree a (spell_mark m w) (Symbol.marked p i ∷ ks) g (a_mark m, r) (mark_after m w) (reads_mark p i m h))
reads_tree (last_member {d} a) = λ w ks g r f h p i many. reads_tree a w (Symbol.members d p i many ∷ ks) g (no_member, r) f.0 (past_members d p i many w f.1 h)
reads_tree (and_members {d} a s b) =
    λ w ks g r f h p i many.
    reads_tree a (sign Kind.Ampersand s ∷ spell b w) (Symbol.members d p i many ∷ ks) g (more_members s b, r) ((refl, refl), refl, refl, refl, refl)
    (reads_member d p i many s b (reads_tree b w ks g r f h p i true))
reads_tree (last_branch {d} a) = λ w ks g r f h p i many. whole_members d a (reads_tree a) w (Symbol.branches d p i many ∷ ks) g (no_branch, r) f.0 (past_branches d p i many w f.1 h)
reads_tree (or_branches {d} a s b) =
    λ w ks g r f h p i many.
    whole_members d a (reads_tree a) (sign Kind.Bar s ∷ spell b w) (Symbol.branches d p i many ∷ ks) g (more_branches s b, r) (((refl, refl), refl, refl, refl, refl), refl)
    (reads_branch d p i many s b (reads_tree b w ks g r f h p i true))

-- ---- rules

reads_is : (s : Sign) {w : List Lexeme} {ks : List Symbol} {g : Ground ks} {r : Rests ks} → Reads w ks g r → Reads (sign Kind.Equal s ∷ w) (Symbol.want 61 ∷ ks) (refl, g) (s, r)
unfolding reading
reads_is s h = record { read = λ st. onward _ (h.read _) }

reads_rule_end : (p i : ℕ) (e : Sign) {w : List Lexeme} {ks : List Symbol} {g : Ground ks} {r : Rests ks} → Reads w ks g r → Reads (sign Kind.Semicolon e ∷ w) (Symbol.rule_end p i ∷ ks) g (e, r)
unfolding reading
reads_rule_end p i e h = record { read = λ st. onward _ (h.read _) }

reads_rule : (any : Bool) (x : Name) (s : Sign) (e : Tree expression 0) (z : Sign) (u : MoreRules true) (w : List Lexeme) → Reads w (Symbol.rules true ∷ []) tt (u, tt) → Reads (spell_rule (rule x s e z) w) (Symbol.rules any ∷ []) tt (rules_from (rule x s e z) u, tt)
unfolding reading
reads_rule any x s e z u w h =
    record { read = λ st. word_has x false (λ k t. after (λ st' ks' g'. parse rest st' ks' g') (consumed (word x) false k t (Symbol.rules any ∷ []) st tt) ≡ tree (rules_from (rule x s e z) u, tt)) (λ t. onward _ ((inner st).read _)) (λ t. onward _ ((inner st).read _)) (λ t. onward _ ((inner st).read _)) (λ t. onward _ ((inner st).read _)) (code (word x) false) refl }
  where
    rest : List Lexeme
    rest = sign Kind.Equal s ∷ spell e (sign Kind.Semicolon z ∷ w)

    inner : (st : State) → Reads rest (Symbol.want 61 ∷ Symbol.expression 0 ∷ Symbol.rule_end x.start (nodes_of st) ∷ Symbol.rules true ∷ []) (refl, tt) (s, (e, (z, (u, tt))))
    inner st = reads_is s (whole_branches 0 e (reads_tree e) (sign Kind.Semicolon z ∷ w) (Symbol.rule_end x.start (nodes_of st) ∷ Symbol.rules true ∷ []) tt (z, (u, tt)) ((((refl, refl), refl, refl, refl, refl), refl), refl) (reads_rule_end x.start (nodes_of st) z h))

reads_end : (p : ℕ) → Reads (finish p ∷ []) (Symbol.rules true ∷ []) tt (no_rule p, tt)
unfolding reading
reads_end p = record { read = λ st. refl }

-- the spelling of rules is read as these rules
pub reads_rules : (t : Rules) (any : Bool) (p : ℕ) → Reads (spelled t p) (Symbol.rules any ∷ []) tt (more_rules t p, tt)
unfolding spell_rules
reads_rules (last_rule (rule x s e z)) any p = reads_rule any x s e z (no_rule p) (finish p ∷ []) (reads_end p)
reads_rules (and_rules (rule x s e z) t) any p = reads_rule any x s e z (more_rules t p) (spelled t p) (reads_rules t true p)
