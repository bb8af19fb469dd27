-- A part of the tree from its parts: how it is spelled and what it stores.
-- Assumes nothing.
use Prim.Native.Nat.{ℕ, ◌+◌, ◌<◌}
use mathlib.Core.Path.{◌≡◌, refl, ap, ◌∙◌}
use mathlib.Core.Bool.{Bool, true, false}
use mathlib.Core.List.{List, [], ◌∷◌}
use Rattle.text_tokens.specs.declared.Kind.{Kind}
use Rattle.text_store.specs.Store.{State, nodes_of, add, insert}
use Rattle.text_parsing.specs.Form.{chained}
use Rattle.tree.specs.Lexemes.{Sign, Number, Literal, Lexeme, sign, numeral, quoted, place_of}
use Rattle.tree.specs.Tree.{Primary, number, variable, Operand, plain, opposite, Calculation, Item, everything, only, between, from, up_to_bound, whole, choice, Choices, item, item_but_item, item_but_set, last_choice, or_choices, Counts, exactly, at_least_count, span, tests, test, conjuncts, disjuncts, Tests, compare, test_group, one_test, all_of, any_of, last_conjunct, and_conjuncts, last_disjunct, or_disjuncts, Single, expression, concatenation, factor, atom, cases, Tree, literal, range, field, binder, rule_use, eod, group, switch, last_case, case_default, case_cases, once, repeated, last_member, and_members, last_branch, or_branches, Rule, last_rule, and_rules}
use Rattle.tree.specs.Spelling.{field_word, spelled_as, spell_primary, spell_operand, spell_calculation, spell_item, spell_set, spell_counts, spell_tests, spell_mark, spell, spell_rule}
use Rattle.tree_form.specs.Stored.{start_of_primary, start_of_operand, store_calculation, store_item, store_set, store_counts, store_tests, start_of, store_case, store, store_rule}
use Rattle.tree_form.proofs.Rests.{Upper, no_upper, an_upper, Reach, alone, reaches, Exception, no_exception, but_item, but_set, Excluded, excluded_item, excluded_set, MoreChoices, no_choice, more_choices, Links, no_link, link, Joined, not_joined, by_and, by_or, Marked, no_mark, a_mark, MoreMembers, no_member, more_members, MoreBranches, no_branch, more_branches, ToCharacter, no_character, to_character, FieldSet, plain_set, bound_set, MoreCases, no_case, default, more_cases, MoreRules, no_rule, more_rules, spell_upper, spell_reach, spell_exception, spell_excluded, spell_choices, spell_links, spell_joined, spell_marked, spell_members, spell_branches, spell_character, spell_field, spell_cases, spell_more_rules, store_upper, store_item_reach, store_counts_reach, store_exception, store_excluded, store_choices, store_links, store_joined, store_marked, store_members, store_branches, store_character, store_fields, store_cases, store_more_rules, opened}

-- ---- where a part's first token stands

abbrev pub first_place : List Lexeme → ℕ
first_place [] = 0
first_place (x ∷ ls) = place_of x

pub primary_place : (a : Primary) (w : List Lexeme) → start_of_primary a ≡ first_place (spell_primary a w)
unfolding spell_primary start_of_primary
primary_place (number n) w = refl
primary_place (variable x) w = refl

pub operand_place : (a : Operand) (w : List Lexeme) → start_of_operand a ≡ first_place (spell_operand a w)
unfolding spell_operand start_of_operand
operand_place (plain x) w = primary_place x w
operand_place (opposite s x) w = refl

pub atom_place : {d : ℕ} (a : Tree atom d) (w : List Lexeme) → start_of a ≡ first_place (spell a w)
unfolding spell start_of
atom_place (literal l) w = refl
atom_place (range a s b one one') w = refl
atom_place (field signed depth u opens n comma x closes) w = refl
atom_place (binder signed depth u opens n comma v opens' x comma' y closes closes') w = refl
atom_place (rule_use x other) w = refl
atom_place (eod s) w = refl
atom_place (group depth opens x closes) w = refl
atom_place (switch depth opens x closes) w = refl

pub factor_place : {d : ℕ} (a : Tree factor d) (w : List Lexeme) → start_of a ≡ first_place (spell a w)
unfolding spell start_of
factor_place (once x) w = atom_place x w
factor_place (repeated x m) w = atom_place x (spell_mark m w)

pub concatenation_place : {d : ℕ} (a : Tree concatenation d) (w : List Lexeme) → start_of a ≡ first_place (spell a w)
unfolding spell start_of
concatenation_place (last_member x) w = factor_place x w
concatenation_place (and_members x s more) w = factor_place x (sign Kind.Ampersand s ∷ spell more w)

-- ---- sets

abbrev pub opened_item : Sign → Upper → Item
opened_item s no_upper = everything s
opened_item s (an_upper b) = up_to_bound s b

pub opened_item_spells : (s : Sign) (u : Upper) (w : List Lexeme) → spell_item (opened_item s u) w ≡ sign Kind.Tilde s ∷ spell_upper u w
unfolding opened
opened_item_spells s no_upper w = refl
opened_item_spells s (an_upper b) w = refl

pub opened_item_stores : (s : Sign) (u : Upper) (st : State) → store_item (opened_item s u) st ≡ store_upper 10 7 s.start u st
unfolding opened
opened_item_stores s no_upper st = refl
opened_item_stores s (an_upper b) st = refl

abbrev pub item_from : Calculation → Reach → Item
item_from a alone = only a
item_from a (reaches s no_upper) = from a s
item_from a (reaches s (an_upper b)) = between a s b

pub item_from_spells : (a : Calculation) (u : Reach) (w : List Lexeme) → spell_item (item_from a u) w ≡ spell_calculation a (spell_reach u w)
unfolding opened
item_from_spells a alone w = refl
item_from_spells a (reaches s no_upper) w = refl
item_from_spells a (reaches s (an_upper b)) w = refl

pub item_from_stores : (a : Calculation) (u : Reach) (st : State) → store_item (item_from a u) st ≡ store_item_reach u (store_calculation a st)
unfolding opened
item_from_stores a alone st = refl
item_from_stores a (reaches s no_upper) st = refl
item_from_stores a (reaches s (an_upper b)) st = refl

abbrev pub excepted : {d : ℕ} → Sign → Excluded d → Exception d
excepted s (excluded_item b) = but_item s b
excepted s (excluded_set l o b c) = but_set l s o b c

pub excepted_spells : {d : ℕ} (s : Sign) (u : Excluded d) (w : List Lexeme) → spell_exception (excepted s u) w ≡ sign Kind.Bang s ∷ spell_excluded u w
unfolding opened
excepted_spells s (excluded_item b) w = refl
excepted_spells s (excluded_set l o b c) w = refl

pub excepted_stores : {d : ℕ} (s : Sign) (u : Excluded d) (st : State) → store_exception (excepted s u) st ≡ add 12 0 s.start 0 (store_excluded u st)
unfolding opened
excepted_stores s (excluded_item b) st = refl
excepted_stores s (excluded_set l o b c) st = refl

abbrev pub choice_from : {d : ℕ} → Item → Exception d → Choices choice d
choice_from i no_exception = item i
choice_from i (but_item s b) = item_but_item i s b
choice_from i (but_set l s o b c) = item_but_set l i s o b c

pub choice_from_spells : {d : ℕ} (i : Item) (u : Exception d) (w : List Lexeme) → spell_set (choice_from i u) w ≡ spell_item i (spell_exception u w)
unfolding opened
choice_from_spells i no_exception w = refl
choice_from_spells i (but_item s b) w = refl
choice_from_spells i (but_set l s o b c) w = refl

pub choice_from_stores : {d : ℕ} (i : Item) (u : Exception d) (join : State → State) (st : State) → store_set (choice_from i u) join st ≡ join (store_exception u (store_item i st))
unfolding opened
choice_from_stores i no_exception join st = refl
choice_from_stores i (but_item s b) join st = refl
choice_from_stores i (but_set l s o b c) join st = refl

choice_last : {d : ℕ} (a : Choices choice d) (join : State → State) (st : State) → store_set a join st ≡ join (store_set a (λ x. x) st)
unfolding store_set
choice_last (item a) join st = refl
choice_last (item_but_item a s b) join st = refl
choice_last (item_but_set l a s o b c) join st = refl

abbrev pub chosen : {d : ℕ} → Choices choice d → MoreChoices d → Choices whole d
chosen a no_choice = last_choice a
chosen a (more_choices s b) = or_choices a s b

pub chosen_spells : {d : ℕ} (a : Choices choice d) (u : MoreChoices d) (w : List Lexeme) → spell_set (chosen a u) w ≡ spell_set a (spell_choices u w)
unfolding opened
chosen_spells a no_choice w = refl
chosen_spells a (more_choices s b) w = refl

pub chosen_stores : {d : ℕ} (a : Choices choice d) (u : MoreChoices d) (join : State → State) (st : State) → store_set (chosen a u) join st ≡ store_choices u (join (store_set a (λ x. x) st))
unfolding opened
chosen_stores a no_choice join st = choice_last a join st
chosen_stores a (more_choices s b) join st = ap (store_set b (add 11 0 s.start 0)) (choice_last a join st)

-- ---- counts

abbrev pub counts_from : Calculation → Reach → Counts
counts_from a alone = exactly a
counts_from a (reaches s no_upper) = at_least_count a s
counts_from a (reaches s (an_upper b)) = span a s b

pub counts_from_spells : (a : Calculation) (u : Reach) (w : List Lexeme) → spell_counts (counts_from a u) w ≡ spell_calculation a (spell_reach u w)
unfolding opened
counts_from_spells a alone w = refl
counts_from_spells a (reaches s no_upper) w = refl
counts_from_spells a (reaches s (an_upper b)) w = refl

pub counts_from_stores : (a : Calculation) (u : Reach) (st : State) → store_counts (counts_from a u) st ≡ store_counts_reach u (store_calculation a st)
unfolding opened
counts_from_stores a alone st = refl
counts_from_stores a (reaches s no_upper) st = refl
counts_from_stores a (reaches s (an_upper b)) st = refl

-- ---- conditions

test_last : {d : ℕ} (a : Tests test d) (join : State → State) (st : State) → store_tests a join st ≡ join (store_tests a (λ x. x) st)
unfolding store_tests
test_last (compare a c s b) join st = refl
test_last (test_group l o a c) join st = refl

unfoldable pub all_from : {d : ℕ} → Tests test d → Links d → Tests conjuncts d
all_from a no_link = last_conjunct a
all_from a (link s b more) = and_conjuncts a s (all_from b more)

pub all_from_spells : {d : ℕ} (a : Tests test d) (u : Links d) (w : List Lexeme) → spell_tests (all_from a u) w ≡ spell_tests a (spell_links Kind.Ampersand u w)
unfolding opened all_from
all_from_spells a no_link w = refl
all_from_spells a (link s b more) w = ap (λ (v : List Lexeme). spell_tests a (sign Kind.Ampersand s ∷ v)) (all_from_spells b more w)

pub all_from_stores : {d : ℕ} (a : Tests test d) (u : Links d) (join : State → State) (st : State) → store_tests (all_from a u) join st ≡ store_links 13 u (join (store_tests a (λ x. x) st))
unfolding opened all_from
all_from_stores a no_link join st = test_last a join st
all_from_stores a (link s b more) join st = all_from_stores b more (add 13 0 s.start 0) (store_tests a join st) ∙ ap (λ (v : State). store_links 13 more (add 13 0 s.start 0 (store_tests b (λ x. x) v))) (test_last a join st)

unfoldable pub any_from : {d : ℕ} → Tests test d → Links d → Tests disjuncts d
any_from a no_link = last_disjunct a
any_from a (link s b more) = or_disjuncts a s (any_from b more)

pub any_from_spells : {d : ℕ} (a : Tests test d) (u : Links d) (w : List Lexeme) → spell_tests (any_from a u) w ≡ spell_tests a (spell_links Kind.Bar u w)
unfolding opened any_from
any_from_spells a no_link w = refl
any_from_spells a (link s b more) w = ap (λ (v : List Lexeme). spell_tests a (sign Kind.Bar s ∷ v)) (any_from_spells b more w)

pub any_from_stores : {d : ℕ} (a : Tests test d) (u : Links d) (join : State → State) (st : State) → store_tests (any_from a u) join st ≡ store_links 11 u (join (store_tests a (λ x. x) st))
unfolding opened any_from
any_from_stores a no_link join st = test_last a join st
any_from_stores a (link s b more) join st = any_from_stores b more (add 11 0 s.start 0) (store_tests a join st) ∙ ap (λ (v : State). store_links 11 more (add 11 0 s.start 0 (store_tests b (λ x. x) v))) (test_last a join st)

abbrev pub tests_from : {d : ℕ} → Tests test d → Joined d → Tests tests d
tests_from a not_joined = one_test a
tests_from a (by_and s b) = all_of a s b
tests_from a (by_or s b) = any_of a s b

pub tests_from_spells : {d : ℕ} (a : Tests test d) (u : Joined d) (w : List Lexeme) → spell_tests (tests_from a u) w ≡ spell_tests a (spell_joined u w)
unfolding opened
tests_from_spells a not_joined w = refl
tests_from_spells a (by_and s b) w = refl
tests_from_spells a (by_or s b) w = refl

pub tests_from_stores : {d : ℕ} (a : Tests test d) (u : Joined d) (st : State) → store_tests (tests_from a u) (λ x. x) st ≡ store_joined u (store_tests a (λ x. x) st)
unfolding opened
tests_from_stores a not_joined st = refl
tests_from_stores a (by_and s b) st = refl
tests_from_stores a (by_or s b) st = refl

-- ---- expressions

abbrev pub factor_from : {d : ℕ} → Tree atom d → Marked → Tree factor d
factor_from a no_mark = once a
factor_from a (a_mark m) = repeated a m

pub factor_from_spells : {d : ℕ} (a : Tree atom d) (u : Marked) (w : List Lexeme) → spell (factor_from a u) w ≡ spell a (spell_marked u w)
unfolding opened
factor_from_spells a no_mark w = refl
factor_from_spells a (a_mark m) w = refl

pub factor_from_stores : {d : ℕ} (a : Tree atom d) (u : Marked) (on : Bool) (st : State) → store (factor_from a u) on st ≡ store_marked u (start_of a) (nodes_of st) (store a false st)
unfolding opened
factor_from_stores a no_mark on st = refl
factor_from_stores a (a_mark m) on st = refl

abbrev pub members_from : {d : ℕ} → Tree factor d → MoreMembers d → Tree concatenation d
members_from a no_member = last_member a
members_from a (more_members s b) = and_members a s b

pub members_from_spells : {d : ℕ} (a : Tree factor d) (u : MoreMembers d) (w : List Lexeme) → spell (members_from a u) w ≡ spell a (spell_members u w)
unfolding opened
members_from_spells a no_member w = refl
members_from_spells a (more_members s b) w = refl

pub members_from_stores : {d : ℕ} (a : Tree factor d) (u : MoreMembers d) (st : State) → store (members_from a u) false st ≡ store_members u (start_of a) (nodes_of st) false (store a false st)
unfolding opened
members_from_stores a no_member st = refl
members_from_stores a (more_members s b) st = refl

-- the same where it goes on a chain
pub members_from_on : {d : ℕ} (a : Tree factor d) (u : MoreMembers d) (p i : ℕ) (st : State) → chained 2 true p i (store (members_from a u) true st) ≡ store_members u p i true (store a false st)
unfolding opened
members_from_on a no_member p i st = refl
members_from_on a (more_members s b) p i st = refl

abbrev pub branches_from : {d : ℕ} → Tree concatenation d → MoreBranches d → Tree expression d
branches_from a no_branch = last_branch a
branches_from a (more_branches s b) = or_branches a s b

pub branches_from_spells : {d : ℕ} (a : Tree concatenation d) (u : MoreBranches d) (w : List Lexeme) → spell (branches_from a u) w ≡ spell a (spell_branches u w)
unfolding opened
branches_from_spells a no_branch w = refl
branches_from_spells a (more_branches s b) w = refl

pub branches_from_stores : {d : ℕ} (a : Tree concatenation d) (u : MoreBranches d) (st : State) → store (branches_from a u) false st ≡ store_branches u (start_of a) (nodes_of st) false (store a false st)
unfolding opened
branches_from_stores a no_branch st = refl
branches_from_stores a (more_branches s b) st = refl

-- the same where it goes on a chain
pub branches_from_on : {d : ℕ} (a : Tree concatenation d) (u : MoreBranches d) (p i : ℕ) (st : State) → chained 1 true p i (store (branches_from a u) true st) ≡ store_branches u p i true (store a false st)
unfolding opened
branches_from_on a no_branch p i st = refl
branches_from_on a (more_branches s b) p i st = refl

abbrev pub character_from : {d : ℕ} (l : Literal) → Single l → ToCharacter → Tree atom d
character_from l one no_character = literal l
character_from l one (to_character s b one') = range l s b one one'

pub character_from_spells : (d : ℕ) (l : Literal) (one : Single l) (u : ToCharacter) (w : List Lexeme) → spell (character_from {d = d} l one u) w ≡ quoted l ∷ spell_character u w
unfolding opened
character_from_spells d l one no_character w = refl
character_from_spells d l one (to_character s b one') w = refl

pub character_from_stores : (d : ℕ) (l : Literal) (one : Single l) (u : ToCharacter) (st : State) → store (character_from {d = d} l one u) false st ≡ store_character u l.start st
unfolding opened
character_from_stores d l one no_character st = refl
character_from_stores d l one (to_character s b one') st = refl

abbrev pub field_from : {d : ℕ} → (signed : Bool) → d < 16 → Sign → Sign → Number → Sign → FieldSet (d + 1) → Tree atom d
field_from signed l u o n m (plain_set x c) = field signed l u o n m x c
field_from signed l u o n m (bound_set l' v o' x m' y c c') = binder signed l' u o n m v o' x m' y c c'

pub field_from_spells : {d : ℕ} (signed : Bool) (l : d < 16) (u o : Sign) (n : Number) (m : Sign) (x : FieldSet (d + 1)) (w : List Lexeme) → spell (field_from signed l u o n m x) w ≡ spelled_as (field_word signed) u ∷ sign Kind.OpenParen o ∷ numeral n ∷ sign Kind.Comma m ∷ spell_field x w
unfolding opened
field_from_spells signed l u o n m (plain_set x c) w = refl
field_from_spells signed l u o n m (bound_set l' v o' x m' y c c') w = refl

pub field_from_stores : {d : ℕ} (signed : Bool) (l : d < 16) (u o : Sign) (n : Number) (m : Sign) (x : FieldSet (d + 1)) (st : State) → store (field_from signed l u o n m x) false st ≡ store_fields x u.start n.start st
unfolding opened
field_from_stores signed l u o n m (plain_set x c) st = refl
field_from_stores signed l u o n m (bound_set l' v o' x m' y c c') st = refl

-- the cases of a switch, and its closing bracket
abbrev pub closing : {d : ℕ} → MoreCases d → Sign
closing (no_case c) = c
closing (default s y e c) = c
closing (more_cases x c) = c

abbrev pub cases_from : {d : ℕ} → Tests tests d → Sign → Tree expression d → Sign → MoreCases d → Tree cases d
cases_from t s x e (no_case c) = last_case t s x e
cases_from t s x e (default s' y e' c) = case_default t s x e s' y e'
cases_from t s x e (more_cases y c) = case_cases t s x e y

pub cases_from_spells : {d : ℕ} (t : Tests tests d) (s : Sign) (x : Tree expression d) (e : Sign) (u : MoreCases d) (w : List Lexeme) → spell (cases_from t s x e u) (sign Kind.CloseBracket (closing u) ∷ w) ≡ spell_tests t (sign Kind.Colon s ∷ spell x (sign Kind.Semicolon e ∷ spell_cases u w))
unfolding opened
cases_from_spells t s x e (no_case c) w = refl
cases_from_spells t s x e (default s' y e' c) w = refl
cases_from_spells t s x e (more_cases y c) w = refl

pub cases_from_stores : {d : ℕ} (t : Tests tests d) (s : Sign) (x : Tree expression d) (e : Sign) (u : MoreCases d) (p i : ℕ) (st : State) → insert 4 p i 0 0 0 0 0 (store (cases_from t s x e u) false st) ≡ store_cases u p i (store_case st (store_tests t (λ y. y) st) (store x false))
unfolding opened
cases_from_stores t s x e (no_case c) p i st = refl
cases_from_stores t s x e (default s' y e' c) p i st = refl
cases_from_stores t s x e (more_cases y c) p i st = refl

-- ---- rules

abbrev pub rules_from : {any : Bool} → Rule → MoreRules true → MoreRules any
rules_from r (no_rule p) = more_rules (last_rule r) p
rules_from r (more_rules t p) = more_rules (and_rules r t) p

pub rules_from_spells : (any : Bool) (r : Rule) (u : MoreRules true) → spell_more_rules (rules_from {any = any} r u) ≡ spell_rule r (spell_more_rules u)
unfolding opened
rules_from_spells any r (no_rule p) = refl
rules_from_spells any r (more_rules t p) = refl

pub rules_from_stores : (any : Bool) (r : Rule) (u : MoreRules true) (st : State) → store_more_rules (rules_from {any = any} r u) st ≡ store_more_rules u (store_rule r st)
unfolding opened
rules_from_stores any r (no_rule p) st = refl
rules_from_stores any r (more_rules t p) st = refl
