-- A token that is handed to the parts that wait leads from rests of what waits then to rests of what waited before.
-- Assumes nothing.
use Prim.Native.Nat.{ℕ, ◌+◌, ◌<◌}
use mathlib.Core.Path.{◌≡◌, refl, sym, ap, subst, ◌∙◌}
use mathlib.Core.Logic.{◌⊎◌, inl, inr, ⊎_elim}
use mathlib.Core.Bool.{Bool, true, false, cond, ◌&&◌}
use mathlib.Core.List.{List, [], ◌∷◌}
use native.Mathlib.Omega.{arith}
use borrow.Author.Tests.{eqb-true, ltb-true}
use lib.Dec.{eqb, leb, ltb}
use Rattle.basis.proofs.Booleans.{both_first, both_second, which}
use Rattle.text_tokens.specs.declared.Kind.{Kind}
use Rattle.text_parsing.specs.Terminals.{begins, name_like}
use Rattle.text_store.specs.Store.{State, nodes_of, terms_of, add, single, insert, leaf}
use Rattle.text_parsing.specs.Symbols.{Symbol}
use Rattle.text_parsing.specs.Form.{Consumed, go, done, fault, primary_begins, operand_begins, calculation_begins, item_begins, test_begins, atom_begins, mark_of, chained, consume}
use Rattle.text_parsing.specs.declared.Terminal.{Terminal}
use Rattle.tree.specs.Lexemes.{Sign, Name, Number, Literal, Lexeme, sign, word, numeral, quoted, stray, finish, place_of}
use Rattle.tree.specs.Tree.{number, variable, Operand, plain, opposite, no_factor, times, product, no_summand, plus, minus, Calculation, sum, only, whole, Choices, item, last_choice, exactly, at_most, equal, unequal, less, at_most_as, greater, at_least_as, test, Tests, compare, test_group, one_test, optional, any_number, one_or_more, counted, expression, concatenation, factor, atom, cases, Tree, literal, rule_use, eod, group, switch, once, last_member, last_branch, rule, last_rule}
use Rattle.tree.specs.Spelling.{spell_factors, spell_summands, spell}
use Rattle.tree_form.specs.Stored.{store_operand, store_factors, store_summands, store}
use Rattle.tree_form.proofs.Classified.{code, seen_with}
use Rattle.tree_form.proofs.Rests.{no_upper, an_upper, alone, reaches, no_exception, excluded_item, excluded_set, no_choice, more_choices, no_link, link, not_joined, by_and, by_or, no_mark, a_mark, no_member, more_members, no_branch, more_branches, no_character, to_character, plain_set, bound_set, no_case, default, more_cases, no_rule, more_rules, kind_of, spell_marked, spell_members, spell_branches, spell_field, store_marked, store_members, store_branches, Rests, spell_all, store_all, Ground, Room, opened}
use Rattle.tree_form.proofs.Words.{sign_in, signed_in, name_in, number_in, literal_in, is_sign, is_number, is_end, is_literal, is_character, is_single, is_eod, is_uint, is_var, is_name, is_other}
use Rattle.tree_form.proofs.Parts.{first_place, operand_place, atom_place, factor_place, concatenation_place, opened_item, opened_item_spells, opened_item_stores, item_from, item_from_spells, item_from_stores, excepted, excepted_spells, excepted_stores, choice_from, choice_from_spells, choice_from_stores, chosen, chosen_spells, chosen_stores, counts_from, counts_from_spells, counts_from_stores, all_from, all_from_spells, all_from_stores, any_from, any_from_spells, any_from_stores, tests_from, tests_from_spells, tests_from_stores, factor_from, factor_from_spells, factor_from_stores, members_from, members_from_spells, members_from_stores, members_from_on, branches_from, branches_from_spells, branches_from_stores, branches_from_on, character_from, character_from_spells, character_from_stores, field_from, field_from_spells, field_from_stores, closing, cases_from, cases_from_spells, cases_from_stores, rules_from, rules_from_spells, rules_from_stores}

-- ---- the shortest rest of each part; its tokens stand nowhere, its name is `a`

abbrev pub no_where : Sign
no_where = record { start = 0; end = 0 }

abbrev some_name : Name
some_name = record { start = 0; end = 0; letters = 97 ∷ [] }

abbrev some_number : Number
some_number = record { start = 0; end = 0; value = 0 }

abbrev some_literal : Literal
some_literal = record { start = 0; end = 0; characters = 97 ∷ [] }

abbrev some_operand : Operand
some_operand = plain (number some_number)

abbrev some_calculation : Calculation
some_calculation = sum (product some_operand no_factor) no_summand

abbrev some_set : {d : ℕ} → Choices whole d
some_set = last_choice (item (only some_calculation))

abbrev some_test : {d : ℕ} → Tests test d
some_test = compare some_calculation equal no_where some_calculation

abbrev some_expression : {d : ℕ} → Tree expression d
some_expression = last_branch (last_member (once (eod no_where)))

pub shortest : (ks : List Symbol) → Ground ks → Room ks → Rests ks
shortest [] g m = tt
shortest (Symbol.want k ∷ ks) g m = (no_where, shortest ks g.1 m)
shortest (Symbol.sign tag p o ∷ ks) g m = (tt, shortest ks g m)
shortest (Symbol.paren d ∷ ks) g m = ((m.0, no_where), shortest ks g m.1)
shortest (Symbol.primary o ∷ ks) g m = (number some_number, shortest ks g m)
shortest (Symbol.operand o ∷ ks) g m = (some_operand, shortest ks g m)
shortest (Symbol.factors o ∷ ks) g m = (no_factor, shortest ks g m)
shortest (Symbol.summands o ∷ ks) g m = (no_summand, shortest ks g m)
shortest (Symbol.calculation ∷ ks) g m = (some_calculation, shortest ks g m)
shortest (Symbol.item ∷ ks) g m = (only some_calculation, shortest ks g m)
shortest (Symbol.item_tail ∷ ks) g m = (alone, shortest ks g m)
shortest (Symbol.bound some none p ∷ ks) g m = (no_upper, shortest ks g m)
shortest (Symbol.exception d ∷ ks) g m = (no_exception, shortest ks g m)
shortest (Symbol.excluded d ∷ ks) g m = (excluded_item (only some_calculation), shortest ks g m)
shortest (Symbol.alternative d ∷ ks) g m = (item (only some_calculation), shortest ks g m)
shortest (Symbol.alternatives d ∷ ks) g m = (no_choice, shortest ks g m)
shortest (Symbol.value_set d ∷ ks) g m = (some_set, shortest ks g m)
shortest (Symbol.counts ∷ ks) g m = (exactly some_calculation, shortest ks g m)
shortest (Symbol.counts_tail ∷ ks) g m = (alone, shortest ks g m)
shortest (Symbol.test d ∷ ks) g m = (some_test, shortest ks g m)
shortest (Symbol.comparison ∷ ks) g m = ((equal, no_where, some_calculation), shortest ks g m)
shortest (Symbol.condition d ∷ ks) g m = (one_test some_test, shortest ks g m)
shortest (Symbol.joined d ∷ ks) g m = (not_joined, shortest ks g m)
shortest (Symbol.chain k tag d ∷ ks) g m = (no_link, shortest ks g.1 m)
shortest (Symbol.atom d ∷ ks) g m = (eod no_where, shortest ks g m)
shortest (Symbol.factor d ∷ ks) g m = (once (eod no_where), shortest ks g m)
shortest (Symbol.concatenation d ∷ ks) g m = (last_member (once (eod no_where)), shortest ks g m)
shortest (Symbol.expression d ∷ ks) g m = (some_expression, shortest ks g m)
shortest (Symbol.marked p i ∷ ks) g m = (no_mark, shortest ks g m)
shortest (Symbol.counts_end p i mark f ∷ ks) g m = (no_where, shortest ks g m)
shortest (Symbol.members d p i many ∷ ks) g m = (no_member, shortest ks g m)
shortest (Symbol.branches d p i many ∷ ks) g m = (no_branch, shortest ks g m)
shortest (Symbol.character_tail p ∷ ks) g m = (no_character, shortest ks g m)
shortest (Symbol.last_character p ∷ ks) g m = ((some_literal, refl), shortest ks g m)
shortest (Symbol.width d p ∷ ks) g m = ((some_number, no_where, plain_set some_set no_where), shortest ks g m)
shortest (Symbol.field_set d p v ∷ ks) g m = (plain_set some_set no_where, shortest ks g m)
shortest (Symbol.bound_name d p v ∷ ks) g m = ((some_name, no_where, some_set, no_where, no_where), shortest ks g m)
shortest (Symbol.field_end p v name how f ∷ ks) g m = (no_where, shortest ks g m)
shortest (Symbol.colon d f ∷ ks) g m = ((no_where, some_expression, no_where), shortest ks g m)
shortest (Symbol.case_end i f end ∷ ks) g m = (no_where, shortest ks g m)
shortest (Symbol.cases d p i ∷ ks) g m = (no_case no_where, shortest ks g m)
shortest (Symbol.switch_end p i ∷ ks) g m = (no_where, shortest ks g m)
shortest (Symbol.rules any ∷ []) g m = (more_rules (last_rule (rule some_name no_where some_expression no_where)) 0, tt)
shortest (Symbol.rules any ∷ k ∷ ks) g m = absurd g
shortest (Symbol.rule_end p i ∷ ks) g m = (no_where, shortest ks g m)

-- ---- a token

-- it also begins a rest by itself, whatever follows it
pub record Other (x : Lexeme) (ks : List Symbol) : Type 0 where
  pub rests : Rests ks
  pub after : List Lexeme
  pub spells : spell_all ks rests ≡ x ∷ after

-- it is not the end
abbrev pub Going : Lexeme → Type 0
Going (sign kind s) = Unit {0}
Going (word n) = Unit {0}
Going (numeral n) = Unit {0}
Going (quoted l) = Unit {0}
Going (stray s) = Unit {0}
Going (finish p) = ⊥

-- no token is taken
abbrev pub Stuck : List Symbol → Type 0
Stuck ks = (s : Terminal) (st : State) → consume s st ks ≡ fault

-- it is taken, and what waits then has these rests; or the text ends; or it cannot stand there
pub data Leads (x : Lexeme) (st : State) (ks : List Symbol) : Consumed → Type 0 where
  goes : {st' : State} {ks' : List Symbol} (back : Rests ks' → Rests ks) → ((r : Rests ks') → spell_all ks (back r) ≡ x ∷ spell_all ks' r) → ((r : Rests ks') → store_all ks (back r) st ≡ store_all ks' r st') → Ground ks' → (Room ks → Room ks' ⊎ (Other x ks × Stuck ks')) → Going x → Leads x st ks (go st' ks')
  ends : {st' : State} (r : Rests ks) → x ≡ finish (place_of x) → spell_all ks r ≡ x ∷ [] → store_all ks r st ≡ st' → Leads x st ks (done st')
  faults : Leads x st ks fault

-- what waits is made of other parts, which wait in its place
pub record Turns (x : Lexeme) (a : State) (ks : List Symbol) (b : State) (js : List Symbol) : Type 0 where
  pub back : Rests js → Rests ks
  pub spells : (r : Rests js) → spell_all ks (back r) ≡ spell_all js r
  pub stores : (r : Rests js) → first_place (spell_all js r) ≡ place_of x → store_all ks (back r) a ≡ store_all js r b
  pub room : Room ks → Room js

unfoldable pub turned : {x : Lexeme} {a b : State} {ks js : List Symbol} {f : Consumed} → Turns x a ks b js → Leads x b js f → Leads x a ks f
turned T (goes back s t g m v) =
    goes (λ r. T.back (back r)) (λ r. T.spells (back r) ∙ s r) (λ r. T.stores (back r) (ap first_place (s r)) ∙ t r) g
    (λ h. ⊎_elim (λ n. inl n) (λ o. inr (record { rests = T.back o.0.rests; after = o.0.after; spells = T.spells o.0.rests ∙ o.0.spells }, o.1)) (m (T.room h))) v
turned T (ends r q s t) = ends (T.back r) q (T.spells r ∙ s) (T.stores r (ap first_place s) ∙ t)
turned T faults = faults

-- one way or the other, by a test
unfoldable pub by_test : {x : Lexeme} {st : State} {ks : List Symbol} (t : Bool) {a b : Consumed} → (t ≡ true → Leads x st ks a) → (t ≡ false → Leads x st ks b) → Leads x st ks (elim t [ true ↦ a | false ↦ b ])
by_test true f g = f refl
by_test false f g = g refl

-- the same of `cond`
unfoldable pub by_cond : {x : Lexeme} {st : State} {ks : List Symbol} (t : Bool) {a b : Consumed} → (t ≡ true → Leads x st ks a) → (t ≡ false → Leads x st ks b) → Leads x st ks (cond t a b)
by_cond true f g = f refl
by_cond false f g = g refl

-- the same of tags
unfoldable pub by_tag : {x : Lexeme} {st : State} {ks : List Symbol} (F : ℕ → Consumed) (t : Bool) {m n : ℕ} → (t ≡ true → Leads x st ks (F m)) → (t ≡ false → Leads x st ks (F n)) → Leads x st ks (F (cond t m n))
by_tag F true f g = f refl
by_tag F false f g = g refl

-- what comes of a tag
abbrev pub summing : Terminal → State → ℕ → List Symbol → ℕ → Consumed
summing s st o ks n = elim (eqb n 0) [ true ↦ consume s st ks | false ↦ go st (Symbol.operand o ∷ Symbol.factors o ∷ Symbol.sign n s.start o ∷ Symbol.summands o ∷ ks) ]

abbrev pub comparing : Terminal → State → List Symbol → ℕ → Consumed
comparing s st ks n = elim (eqb n 0) [ true ↦ fault | false ↦ go st (Symbol.calculation ∷ Symbol.sign n s.start 0 ∷ ks) ]

abbrev pub marking : Terminal → (p i : ℕ) → State → List Symbol → ℕ → Consumed
marking s p i st ks n = elim (eqb n 0) [ true ↦ consume s st ks | false ↦ go (insert 3 p i n s.start 0 0 0 st) ks ]

-- taken as what it is
unfoldable pub takes : {x y : Lexeme} {st st' : State} {ks ks' : List Symbol} → x ≡ y → (back : Rests ks' → Rests ks) → ((r : Rests ks') → spell_all ks (back r) ≡ y ∷ spell_all ks' r) → ((r : Rests ks') → store_all ks (back r) st ≡ store_all ks' r st') → Ground ks' → (Room ks → Room ks') → Going y → Leads x st ks (go st' ks')
takes {ks' = ks'} q back s t g m v = goes back (λ r. s r ∙ ap (λ (z : Lexeme). z ∷ spell_all ks' r) (sym q)) t g (λ h. inl (m h)) (subst Going (sym q) v)

-- ---- parts that are made of others, or of nothing

abbrev pub signed : (x : Lexeme) (st : State) (tag p o : ℕ) (ks : List Symbol) → Turns x st (Symbol.sign tag p o ∷ ks) (add tag 0 p o st) (ks)
unfolding opened
signed x st tag p o ks = record { back = λ r. (tt, r); spells = λ r. refl; stores = λ r f. refl; room = λ m. m }

abbrev pub no_minus : (x : Lexeme) (st : State) (o : ℕ) (ks : List Symbol) → Turns x st (Symbol.operand o ∷ ks) st (Symbol.primary o ∷ ks)
unfolding opened
no_minus x st o ks = record { back = λ r. (plain r.0, r.1); spells = λ r. refl; stores = λ r f. refl; room = λ m. m }

abbrev pub factors_end : (x : Lexeme) (st : State) (o : ℕ) (ks : List Symbol) → Turns x st (Symbol.factors o ∷ ks) st (ks)
unfolding opened
factors_end x st o ks = record { back = λ r. (no_factor, r); spells = λ r. refl; stores = λ r f. refl; room = λ m. m }

abbrev pub summands_end : (x : Lexeme) (st : State) (o : ℕ) (ks : List Symbol) → Turns x st (Symbol.summands o ∷ ks) st (ks)
unfolding opened
summands_end x st o ks = record { back = λ r. (no_summand, r); spells = λ r. refl; stores = λ r f. refl; room = λ m. m }

abbrev pub summed : (x : Lexeme) (st : State) (ks : List Symbol) → Turns x st (Symbol.calculation ∷ ks) st (Symbol.operand (place_of x) ∷ Symbol.factors (place_of x) ∷ Symbol.summands (place_of x) ∷ ks)
unfolding opened
summed x st ks = record { back = λ r. (sum (product r.0 r.1.0) r.1.1.0, r.1.1.1); spells = λ r. refl; stores = λ r f. ap (λ (o : ℕ). store_all ks r.1.1.1 (store_summands o r.1.1.0 (store_factors o r.1.0 (store_operand o r.0 st)))) (operand_place r.0 (spell_factors r.1.0 (spell_summands r.1.1.0 (spell_all ks r.1.1.1))) ∙ f); room = λ m. m }

abbrev pub item_begun : (x : Lexeme) (st : State) (ks : List Symbol) → Turns x st (Symbol.item ∷ ks) st (Symbol.calculation ∷ Symbol.item_tail ∷ ks)
unfolding opened
item_begun x st ks = record { back = λ r. (item_from r.0 r.1.0, r.1.1); spells = λ r. item_from_spells r.0 r.1.0 (spell_all ks r.1.1); stores = λ r f. ap (store_all ks r.1.1) (item_from_stores r.0 r.1.0 st); room = λ m. m }

abbrev pub item_end : (x : Lexeme) (st : State) (ks : List Symbol) → Turns x st (Symbol.item_tail ∷ ks) (single st) (ks)
unfolding opened
item_end x st ks = record { back = λ r. (alone, r); spells = λ r. refl; stores = λ r f. refl; room = λ m. m }

abbrev pub upper : (x : Lexeme) (st : State) (some none p : ℕ) (ks : List Symbol) → Turns x st (Symbol.bound some none p ∷ ks) st (Symbol.calculation ∷ Symbol.sign some p 0 ∷ ks)
unfolding opened
upper x st some none p ks = record { back = λ r. (an_upper r.0, r.1.1); spells = λ r. refl; stores = λ r f. refl; room = λ m. m }

abbrev pub upper_end : (x : Lexeme) (st : State) (some none p : ℕ) (ks : List Symbol) → Turns x st (Symbol.bound some none p ∷ ks) (add none 0 p 0 st) (ks)
unfolding opened
upper_end x st some none p ks = record { back = λ r. (no_upper, r); spells = λ r. refl; stores = λ r f. refl; room = λ m. m }

abbrev pub exception_end : (x : Lexeme) (st : State) (d : ℕ) (ks : List Symbol) → Turns x st (Symbol.exception d ∷ ks) st (ks)
unfolding opened
exception_end x st d ks = record { back = λ r. (no_exception, r); spells = λ r. refl; stores = λ r f. refl; room = λ m. m }

abbrev pub excluded_one : (x : Lexeme) (st : State) (d : ℕ) (ks : List Symbol) → Turns x st (Symbol.excluded d ∷ ks) st (Symbol.item ∷ ks)
unfolding opened
excluded_one x st d ks = record { back = λ r. (excluded_item r.0, r.1); spells = λ r. refl; stores = λ r f. refl; room = λ m. m }

abbrev pub one_choice : (x : Lexeme) (st : State) (d : ℕ) (ks : List Symbol) → Turns x st (Symbol.alternative d ∷ ks) st (Symbol.item ∷ Symbol.exception d ∷ ks)
unfolding opened
one_choice x st d ks = record { back = λ r. (choice_from r.0 r.1.0, r.1.1); spells = λ r. choice_from_spells r.0 r.1.0 (spell_all ks r.1.1); stores = λ r f. ap (store_all ks r.1.1) (choice_from_stores r.0 r.1.0 (λ y. y) st); room = λ m. m }

abbrev pub choices_end : (x : Lexeme) (st : State) (d : ℕ) (ks : List Symbol) → Turns x st (Symbol.alternatives d ∷ ks) st (ks)
unfolding opened
choices_end x st d ks = record { back = λ r. (no_choice, r); spells = λ r. refl; stores = λ r f. refl; room = λ m. m }

abbrev pub set_begun : (x : Lexeme) (st : State) (d : ℕ) (ks : List Symbol) → Turns x st (Symbol.value_set d ∷ ks) st (Symbol.alternative d ∷ Symbol.alternatives d ∷ ks)
unfolding opened
set_begun x st d ks = record { back = λ r. (chosen r.0 r.1.0, r.1.1); spells = λ r. chosen_spells r.0 r.1.0 (spell_all ks r.1.1); stores = λ r f. ap (store_all ks r.1.1) (chosen_stores r.0 r.1.0 (λ y. y) st); room = λ m. m }

abbrev pub counts_begun : (x : Lexeme) (st : State) (ks : List Symbol) → Turns x st (Symbol.counts ∷ ks) st (Symbol.calculation ∷ Symbol.counts_tail ∷ ks)
unfolding opened
counts_begun x st ks = record { back = λ r. (counts_from r.0 r.1.0, r.1.1); spells = λ r. counts_from_spells r.0 r.1.0 (spell_all ks r.1.1); stores = λ r f. ap (store_all ks r.1.1) (counts_from_stores r.0 r.1.0 st); room = λ m. m }

abbrev pub counts_tail_end : (x : Lexeme) (st : State) (ks : List Symbol) → Turns x st (Symbol.counts_tail ∷ ks) st (ks)
unfolding opened
counts_tail_end x st ks = record { back = λ r. (alone, r); spells = λ r. refl; stores = λ r f. refl; room = λ m. m }

abbrev pub compared : (x : Lexeme) (st : State) (d : ℕ) (ks : List Symbol) → Turns x st (Symbol.test d ∷ ks) st (Symbol.calculation ∷ Symbol.comparison ∷ ks)
unfolding opened
compared x st d ks = record { back = λ r. (compare r.0 r.1.0.0 r.1.0.1 r.1.0.2, r.1.1); spells = λ r. refl; stores = λ r f. refl; room = λ m. m }

abbrev pub condition_begun : (x : Lexeme) (st : State) (d : ℕ) (ks : List Symbol) → Turns x st (Symbol.condition d ∷ ks) st (Symbol.test d ∷ Symbol.joined d ∷ ks)
unfolding opened
condition_begun x st d ks = record { back = λ r. (tests_from r.0 r.1.0, r.1.1); spells = λ r. tests_from_spells r.0 r.1.0 (spell_all ks r.1.1); stores = λ r f. ap (store_all ks r.1.1) (tests_from_stores r.0 r.1.0 st); room = λ m. m }

abbrev pub joined_end : (x : Lexeme) (st : State) (d : ℕ) (ks : List Symbol) → Turns x st (Symbol.joined d ∷ ks) st (ks)
unfolding opened
joined_end x st d ks = record { back = λ r. (not_joined, r); spells = λ r. refl; stores = λ r f. refl; room = λ m. m }

abbrev pub chain_end : (x : Lexeme) (st : State) (k tag d : ℕ) (ks : List Symbol) → Turns x st (Symbol.chain k tag d ∷ ks) st (ks)
unfolding opened
chain_end x st k tag d ks = record { back = λ r. (no_link, r); spells = λ r. refl; stores = λ r f. refl; room = λ m. m }

abbrev pub factor_begun : (x : Lexeme) (st : State) (d : ℕ) (ks : List Symbol) → Turns x st (Symbol.factor d ∷ ks) st (Symbol.atom d ∷ Symbol.marked (place_of x) (nodes_of st) ∷ ks)
unfolding opened
factor_begun x st d ks = record { back = λ r. (factor_from r.0 r.1.0, r.1.1); spells = λ r. factor_from_spells r.0 r.1.0 (spell_all ks r.1.1); stores = λ r f. ap (store_all ks r.1.1) (factor_from_stores r.0 r.1.0 false st ∙ ap (λ (p : ℕ). store_marked r.1.0 p (nodes_of st) (store r.0 false st)) (atom_place r.0 (spell_marked r.1.0 (spell_all ks r.1.1)) ∙ f)); room = λ m. m }

abbrev pub concatenation_begun : (x : Lexeme) (st : State) (d : ℕ) (ks : List Symbol) → Turns x st (Symbol.concatenation d ∷ ks) st (Symbol.factor d ∷ Symbol.members d (place_of x) (nodes_of st) false ∷ ks)
unfolding opened
concatenation_begun x st d ks = record { back = λ r. (members_from r.0 r.1.0, r.1.1); spells = λ r. members_from_spells r.0 r.1.0 (spell_all ks r.1.1); stores = λ r f. ap (store_all ks r.1.1) (members_from_stores r.0 r.1.0 st ∙ ap (λ (p : ℕ). store_members r.1.0 p (nodes_of st) false (store r.0 false st)) (factor_place r.0 (spell_members r.1.0 (spell_all ks r.1.1)) ∙ f)); room = λ m. m }

abbrev pub expression_begun : (x : Lexeme) (st : State) (d : ℕ) (ks : List Symbol) → Turns x st (Symbol.expression d ∷ ks) st (Symbol.concatenation d ∷ Symbol.branches d (place_of x) (nodes_of st) false ∷ ks)
unfolding opened
expression_begun x st d ks = record { back = λ r. (branches_from r.0 r.1.0, r.1.1); spells = λ r. branches_from_spells r.0 r.1.0 (spell_all ks r.1.1); stores = λ r f. ap (store_all ks r.1.1) (branches_from_stores r.0 r.1.0 st ∙ ap (λ (p : ℕ). store_branches r.1.0 p (nodes_of st) false (store r.0 false st)) (concatenation_place r.0 (spell_branches r.1.0 (spell_all ks r.1.1)) ∙ f)); room = λ m. m }

abbrev pub mark_end : (x : Lexeme) (st : State) (p i : ℕ) (ks : List Symbol) → Turns x st (Symbol.marked p i ∷ ks) st (ks)
unfolding opened
mark_end x st p i ks = record { back = λ r. (no_mark, r); spells = λ r. refl; stores = λ r f. refl; room = λ m. m }

abbrev pub members_end : (x : Lexeme) (st : State) (d p i : ℕ) (many : Bool) (ks : List Symbol) → Turns x st (Symbol.members d p i many ∷ ks) (chained 2 many p i st) (ks)
unfolding opened
members_end x st d p i many ks = record { back = λ r. (no_member, r); spells = λ r. refl; stores = λ r f. refl; room = λ m. m }

abbrev pub branches_end : (x : Lexeme) (st : State) (d p i : ℕ) (many : Bool) (ks : List Symbol) → Turns x st (Symbol.branches d p i many ∷ ks) (chained 1 many p i st) (ks)
unfolding opened
branches_end x st d p i many ks = record { back = λ r. (no_branch, r); spells = λ r. refl; stores = λ r f. refl; room = λ m. m }

abbrev pub character_end : (x : Lexeme) (st : State) (p : ℕ) (ks : List Symbol) → Turns x st (Symbol.character_tail p ∷ ks) (leaf 6 p 0 0 0 0 0 st) (ks)
unfolding opened
character_end x st p ks = record { back = λ r. (no_character, r); spells = λ r. refl; stores = λ r f. refl; room = λ m. m }

abbrev pub set_not_bound : (x : Lexeme) (st : State) (d p v : ℕ) (ks : List Symbol) → Turns x st (Symbol.field_set d p v ∷ ks) st (Symbol.value_set d ∷ Symbol.field_end p v 0 0 (terms_of st) ∷ ks)
unfolding opened
set_not_bound x st d p v ks = record { back = λ r. (plain_set r.0 r.1.0, r.1.1); spells = λ r. refl; stores = λ r f. refl; room = λ m. m }

abbrev pub case_begun : (x : Lexeme) (st : State) (d p i : ℕ) (ks : List Symbol) → Turns x st (Symbol.cases d p i ∷ ks) st (Symbol.condition d ∷ Symbol.colon d (terms_of st) ∷ Symbol.cases d p i ∷ ks)
unfolding opened
case_begun x st d p i ks = record { back = λ r. (more_cases (cases_from r.0 r.1.0.0 r.1.0.1 r.1.0.2 r.1.1.0) (closing r.1.1.0), r.1.1.1); spells = λ r. cases_from_spells r.0 r.1.0.0 r.1.0.1 r.1.0.2 r.1.1.0 (spell_all ks r.1.1.1); stores = λ r f. ap (store_all ks r.1.1.1) (cases_from_stores r.0 r.1.0.0 r.1.0.1 r.1.0.2 r.1.1.0 p i st); room = λ m. m }

-- `(` that is too deep cannot be taken
pub too_deep : (ks : List Symbol) (d : ℕ) → ltb d 16 ≡ false → Stuck (Symbol.paren d ∷ ks)
unfolding consume
too_deep ks d l s st = rw (l, consume)

-- ---- a token of a code

module _ (x : Lexeme) (next : Bool) (c : ℕ) (e : code x next ≡ c) where
  pub sign_is : (k : ℕ) → leb 10 k ≡ true → eqb c k ≡ true → x ≡ sign (kind_of k) (sign_in x)
  sign_is k l t = is_sign x next k (e ∙ eqb-true c k t) l

  -- it is a name where it has one of these codes
  pub named_as : (k : ℕ) → name_like k ≡ true → eqb c k ≡ true → name_like c ≡ true
  named_as k n t = subst (λ (v : ℕ). name_like v ≡ true) (sym (eqb-true c k t)) n

  unfoldable pub primary_leads : (o : ℕ) (st : State) (ks : List Symbol) → Ground ks → Leads x st (Symbol.primary o ∷ ks) (primary_begins o (seen_with x c) st ks)
  unfolding primary_begins opened
  primary_leads o st ks g =
      by_test (eqb c 2) (λ t. takes (is_number x next c e t) (λ r. (number (number_in x), r)) (λ r. refl) (λ r. refl) g (λ m. m) tt) (λ u.
      by_test (name_like c) (λ n. takes (is_name x next c e n) (λ r. (variable (name_in x), r)) (λ r. refl) (λ r. refl) g (λ m. m) tt) (λ n. faults))

  unfoldable pub operand_leads : (o : ℕ) (st : State) (ks : List Symbol) → Ground ks → Leads x st (Symbol.operand o ∷ ks) (operand_begins o (seen_with x c) st ks)
  unfolding operand_begins opened
  operand_leads o st ks g =
      by_test (eqb c 45) (λ t. takes (sign_is 45 refl t) (λ r. (opposite (sign_in x) r.0, r.1.1)) (λ r. refl) (λ r. refl) g (λ m. m) tt) (λ u. turned (no_minus x st o ks) (primary_leads o st ks g))

  unfoldable pub calculation_leads : (st : State) (ks : List Symbol) → Ground ks → Leads x st (Symbol.calculation ∷ ks) (calculation_begins (seen_with x c) st ks)
  unfolding operand_begins
  calculation_leads st ks g =
      turned (summed x st ks) (operand_leads (place_of x) st (Symbol.factors (place_of x) ∷ Symbol.summands (place_of x) ∷ ks) g)

  unfoldable pub item_leads : (st : State) (ks : List Symbol) → Ground ks → Leads x st (Symbol.item ∷ ks) (item_begins (seen_with x c) st ks)
  unfolding item_begins
  item_leads st ks g =
      by_test (eqb c 126) (λ t. takes (sign_is 126 refl t) (λ r. (opened_item (sign_in x) r.0, r.1)) (λ r. opened_item_spells (sign_in x) r.0 (spell_all ks r.1)) (λ r. ap (store_all ks r.1) (opened_item_stores (sign_in x) r.0 st)) g (λ m. m) tt) (λ u. turned (item_begun x st ks) (calculation_leads st (Symbol.item_tail ∷ ks) g))

  unfoldable pub choice_leads : (d : ℕ) (st : State) (ks : List Symbol) → Ground ks → Leads x st (Symbol.alternative d ∷ ks) (item_begins (seen_with x c) st (Symbol.exception d ∷ ks))
  unfolding item_begins
  choice_leads d st ks g =
      turned (one_choice x st d ks) (item_leads st (Symbol.exception d ∷ ks) g)

  unfoldable pub set_leads : (d : ℕ) (st : State) (ks : List Symbol) → Ground ks → Leads x st (Symbol.value_set d ∷ ks) (item_begins (seen_with x c) st (Symbol.exception d ∷ Symbol.alternatives d ∷ ks))
  unfolding item_begins
  set_leads d st ks g =
      turned (set_begun x st d ks) (choice_leads d st (Symbol.alternatives d ∷ ks) g)

  unfoldable pub test_leads : (d : ℕ) (st : State) (ks : List Symbol) → Ground ks → Leads x st (Symbol.test d ∷ ks) (test_begins d (seen_with x c) st ks)
  unfolding test_begins opened
  test_leads d st ks g =
      by_test (eqb c 40) (λ t. by_cond (ltb d 16) (λ l. takes (sign_is 40 refl t) (λ r. (test_group (ltb-true d 16 l) (sign_in x) r.0 r.1.0, r.1.1)) (λ r. refl) (λ r. refl) (refl, g) (λ m. m) tt) (λ l. faults)) (λ u. turned (compared x st d ks) (calculation_leads st (Symbol.comparison ∷ ks) g))

  unfoldable pub condition_leads : (d : ℕ) (st : State) (ks : List Symbol) → Ground ks → Leads x st (Symbol.condition d ∷ ks) (test_begins d (seen_with x c) st (Symbol.joined d ∷ ks))
  unfolding test_begins
  condition_leads d st ks g =
      turned (condition_begun x st d ks) (test_leads d st (Symbol.joined d ∷ ks) g)

  -- `uint` where nothing can be opened is a rule's name by itself
  pub use_instead : (d : ℕ) (ks : List Symbol) → Ground ks → eqb c 6 ≡ true → Room ks → Other x (Symbol.atom d ∷ ks)
  unfolding spell
  use_instead d ks g t m =
      let n : name_like c ≡ true = named_as 6 refl t
      in let f : eqb c 7 ≡ false = subst (λ (v : ℕ). eqb v 7 ≡ false) (sym (eqb-true c 6 t)) refl
      in record { rests = (rule_use (name_in x) (is_other x next c e n f), shortest ks g m); after = spell_all ks (shortest ks g m); spells = ap (λ (z : Lexeme). z ∷ spell_all ks (shortest ks g m)) (sym (is_name x next c e n)) }

  unfoldable pub field_leads : (d : ℕ) (st : State) (ks : List Symbol) → Ground ks → eqb c 6 ≡ true → Leads x st (Symbol.atom d ∷ ks) (go st (Symbol.paren d ∷ Symbol.width (d + 1) (place_of x) ∷ ks))
  field_leads d st ks g t =
      goes {ks' = Symbol.paren d ∷ Symbol.width (d + 1) (place_of x) ∷ ks} (λ r. (field_from (signed_in x) r.0.0 (sign_in x) r.0.1 r.1.0.0 r.1.0.1 r.1.0.2, r.1.1))
      (λ r. field_from_spells (signed_in x) r.0.0 (sign_in x) r.0.1 r.1.0.0 r.1.0.1 r.1.0.2 (spell_all ks r.1.1) ∙ ap (λ (z : Lexeme). z ∷ sign Kind.OpenParen r.0.1 ∷ numeral r.1.0.0 ∷ sign Kind.Comma r.1.0.1 ∷ spell_field r.1.0.2 (spell_all ks r.1.1)) (sym (is_uint x next c e t)))
      (λ r. ap (store_all ks r.1.1) (field_from_stores (signed_in x) r.0.0 (sign_in x) r.0.1 r.1.0.0 r.1.0.1 r.1.0.2 st))
      g (λ m. ⊎_elim (λ l. inl (ltb-true d 16 l, m)) (λ l. inr (use_instead d ks g t m, too_deep (Symbol.width (d + 1) (place_of x) ∷ ks) d l)) (which (ltb d 16))) (subst Going (sym (is_uint x next c e t)) tt)

  unfoldable pub switch_leads : (d : ℕ) (st : State) (ks : List Symbol) → Ground ks → eqb c 91 ≡ true → d < 16 → Leads x st (Symbol.atom d ∷ ks) (go st (Symbol.condition (d + 1) ∷ Symbol.colon (d + 1) (terms_of st) ∷ Symbol.cases (d + 1) (place_of x) (nodes_of st) ∷ ks))
  unfolding opened
  switch_leads d st ks g t l =
      takes (sign_is 91 refl t) (λ r. (switch l (sign_in x) (cases_from r.0 r.1.0.0 r.1.0.1 r.1.0.2 r.1.1.0) (closing r.1.1.0), r.1.1.1))
      (λ r. ap (λ (v : List Lexeme). sign Kind.OpenBracket (sign_in x) ∷ v) (cases_from_spells r.0 r.1.0.0 r.1.0.1 r.1.0.2 r.1.1.0 (spell_all ks r.1.1.1)))
      (λ r. ap (store_all ks r.1.1.1) (cases_from_stores r.0 r.1.0.0 r.1.0.1 r.1.0.2 r.1.1.0 (place_of x) (nodes_of st) st))
      g (λ m. m) tt

  unfoldable pub atom_leads : (d : ℕ) (st : State) (ks : List Symbol) → Ground ks → Leads x st (Symbol.atom d ∷ ks) (atom_begins d (seen_with x c) st ks)
  unfolding atom_begins opened
  atom_leads d st ks g =
      by_cond (eqb c 3) (λ t. takes (is_literal x next c e t) (λ r. (literal (literal_in x), r)) (λ r. refl) (λ r. refl) g (λ m. m) tt)
      (λ u0. by_cond (eqb c 9) (λ t. takes (is_character x next c e t) (λ r. (character_from (literal_in x) (is_single x next c e t) r.0, r.1)) (λ r. character_from_spells d (literal_in x) (is_single x next c e t) r.0 (spell_all ks r.1)) (λ r. ap (store_all ks r.1) (character_from_stores d (literal_in x) (is_single x next c e t) r.0 st)) g (λ m. m) tt)
      (λ u1. by_cond (eqb c 6) (λ t. field_leads d st ks g t)
      (λ u2. by_cond (eqb c 7) (λ t. takes (is_eod x next c e t) (λ r. (eod (sign_in x), r)) (λ r. refl) (λ r. refl) g (λ m. m) tt)
      (λ u3. by_cond (name_like c) (λ t. takes (is_name x next c e t) (λ r. (rule_use (name_in x) (is_other x next c e t u3), r)) (λ r. refl) (λ r. refl) g (λ m. m) tt)
      (λ u4. by_cond (eqb c 40) (λ t. by_cond (ltb d 16) (λ l. takes (sign_is 40 refl t) (λ r. (group (ltb-true d 16 l) (sign_in x) r.0 r.1.0, r.1.1)) (λ r. refl) (λ r. refl) (refl, g) (λ m. m) tt) (λ l. faults))
      (λ u5. by_cond (eqb c 91) (λ t. by_cond (ltb d 16) (λ l. switch_leads d st ks g t (ltb-true d 16 l)) (λ l. faults))
      (λ u6. faults)))))))

  unfoldable pub factor_leads : (d : ℕ) (st : State) (ks : List Symbol) → Ground ks → Leads x st (Symbol.factor d ∷ ks) (atom_begins d (seen_with x c) st (Symbol.marked (place_of x) (nodes_of st) ∷ ks))
  unfolding atom_begins
  factor_leads d st ks g =
      turned (factor_begun x st d ks) (atom_leads d st (Symbol.marked (place_of x) (nodes_of st) ∷ ks) g)

  unfoldable pub concatenation_leads : (d : ℕ) (st : State) (ks : List Symbol) → Ground ks → Leads x st (Symbol.concatenation d ∷ ks) (atom_begins d (seen_with x c) st (Symbol.marked (place_of x) (nodes_of st) ∷ Symbol.members d (place_of x) (nodes_of st) false ∷ ks))
  unfolding atom_begins
  concatenation_leads d st ks g =
      turned (concatenation_begun x st d ks) (factor_leads d st (Symbol.members d (place_of x) (nodes_of st) false ∷ ks) g)

  -- signs that have tags
  unfoldable pub summand_leads : (o : ℕ) (st : State) (ks : List Symbol) → Ground ks → Leads x st ks (consume (seen_with x c) st ks) → Leads x st (Symbol.summands o ∷ ks) (consume (seen_with x c) st (Symbol.summands o ∷ ks))
  unfolding consume opened
  summand_leads o st ks g h =
      by_tag (summing (seen_with x c) st o ks) (eqb c 43) (λ t. takes (sign_is 43 refl t) (λ r. (plus (sign_in x) (product r.0 r.1.0) r.1.1.1.0, r.1.1.1.1)) (λ r. refl) (λ r. refl) g (λ m. m) tt)
      (λ u. by_tag (summing (seen_with x c) st o ks) (eqb c 45) (λ t. takes (sign_is 45 refl t) (λ r. (minus (sign_in x) (product r.0 r.1.0) r.1.1.1.0, r.1.1.1.1)) (λ r. refl) (λ r. refl) g (λ m. m) tt) (λ v. turned (summands_end x st o ks) h))

  unfoldable pub comparison_leads : (st : State) (ks : List Symbol) → Ground ks → Leads x st (Symbol.comparison ∷ ks) (consume (seen_with x c) st (Symbol.comparison ∷ ks))
  unfolding consume opened
  comparison_leads st ks g =
      by_tag (comparing (seen_with x c) st ks) (eqb c 61) (λ t. takes (sign_is 61 refl t) (λ r. ((equal, sign_in x, r.0), r.1.1)) (λ r. refl) (λ r. refl) g (λ m. m) tt)
      (λ u61. by_tag (comparing (seen_with x c) st ks) (eqb c 161) (λ t. takes (sign_is 161 refl t) (λ r. ((unequal, sign_in x, r.0), r.1.1)) (λ r. refl) (λ r. refl) g (λ m. m) tt)
      (λ u161. by_tag (comparing (seen_with x c) st ks) (eqb c 60) (λ t. takes (sign_is 60 refl t) (λ r. ((less, sign_in x, r.0), r.1.1)) (λ r. refl) (λ r. refl) g (λ m. m) tt)
      (λ u60. by_tag (comparing (seen_with x c) st ks) (eqb c 188) (λ t. takes (sign_is 188 refl t) (λ r. ((at_most_as, sign_in x, r.0), r.1.1)) (λ r. refl) (λ r. refl) g (λ m. m) tt)
      (λ u188. by_tag (comparing (seen_with x c) st ks) (eqb c 62) (λ t. takes (sign_is 62 refl t) (λ r. ((greater, sign_in x, r.0), r.1.1)) (λ r. refl) (λ r. refl) g (λ m. m) tt)
      (λ u62. by_tag (comparing (seen_with x c) st ks) (eqb c 190) (λ t. takes (sign_is 190 refl t) (λ r. ((at_least_as, sign_in x, r.0), r.1.1)) (λ r. refl) (λ r. refl) g (λ m. m) tt)
      (λ u190. faults))))))

  unfoldable pub mark_leads : (p i : ℕ) (st : State) (ks : List Symbol) → Ground ks → Leads x st ks (consume (seen_with x c) st ks) → Leads x st (Symbol.marked p i ∷ ks) (elim (eqb (mark_of c) 0) [ true ↦ consume (seen_with x c) st ks | false ↦ go (insert 3 p i (mark_of c) (place_of x) 0 0 0 st) ks ])
  unfolding opened
  mark_leads p i st ks g h =
      by_tag (marking (seen_with x c) p i st ks) (eqb c 63) (λ t. takes (sign_is 63 refl t) (λ r. (a_mark (optional (sign_in x)), r)) (λ r. refl) (λ r. refl) g (λ m. m) tt)
      (λ u63. by_tag (marking (seen_with x c) p i st ks) (eqb c 42) (λ t. takes (sign_is 42 refl t) (λ r. (a_mark (any_number (sign_in x)), r)) (λ r. refl) (λ r. refl) g (λ m. m) tt)
      (λ u42. by_tag (marking (seen_with x c) p i st ks) (eqb c 43) (λ t. takes (sign_is 43 refl t) (λ r. (a_mark (one_or_more (sign_in x)), r)) (λ r. refl) (λ r. refl) g (λ m. m) tt)
      (λ u43. turned (mark_end x st p i ks) h)))

  -- `var` where nothing can be opened is a variable by itself
  pub variable_instead : (d p v : ℕ) (ks : List Symbol) → Ground ks → eqb c 8 ≡ true → Room ks → Other x (Symbol.field_set d p v ∷ ks)
  unfolding opened
  variable_instead d p v ks g t m =
      let n : name_like c ≡ true = named_as 8 refl t
      in record { rests = (plain_set (last_choice (item (only (sum (product (plain (variable (name_in x))) no_factor) no_summand)))) no_where, shortest ks g m); after = sign Kind.CloseParen no_where ∷ spell_all ks (shortest ks g m); spells = ap (λ (z : Lexeme). z ∷ sign Kind.CloseParen no_where ∷ spell_all ks (shortest ks g m)) (sym (is_name x next c e n)) }

  unfoldable pub binder_leads : (d p v : ℕ) (st : State) (ks : List Symbol) → Ground ks → eqb c 8 ≡ true → Leads x st (Symbol.field_set d p v ∷ ks) (go st (Symbol.paren d ∷ Symbol.bound_name (d + 1) p v ∷ ks))
  unfolding opened
  binder_leads d p v st ks g t =
      goes {ks' = Symbol.paren d ∷ Symbol.bound_name (d + 1) p v ∷ ks} (λ r. (bound_set r.0.0 (sign_in x) r.0.1 r.1.0.0 r.1.0.1 r.1.0.2 r.1.0.3 r.1.0.4, r.1.1))
      (λ r. ap (λ (z : Lexeme). z ∷ spell_all (Symbol.paren d ∷ Symbol.bound_name (d + 1) p v ∷ ks) r) (sym (is_var x next c e t)))
      (λ r. refl) g (λ m. ⊎_elim (λ l. inl (ltb-true d 16 l, m)) (λ l. inr (variable_instead d p v ks g t m, too_deep (Symbol.bound_name (d + 1) p v ∷ ks) d l)) (which (ltb d 16))) (subst Going (sym (is_var x next c e t)) tt)

  unfoldable pub end_leads : (any : Bool) (st : State) → any ≡ true → eqb c 5 ≡ true → Leads x st (Symbol.rules any ∷ []) (done st)
  unfolding opened
  end_leads true st a t = ends (no_rule (place_of x), tt) (is_end x next c e t) (ap (λ (z : Lexeme). z ∷ []) (sym (is_end x next c e t))) refl
  end_leads false st a t = let z : ◌≡◌ {A = ℕ} 0 1 = cc in absurd (omega arith)

  unfoldable pub consumed : (ks : List Symbol) (st : State) → Ground ks → Leads x st ks (consume (seen_with x c) st ks)
  unfolding consume opened
  consumed [] st g = faults
  consumed (Symbol.want k ∷ ks) st g = by_test (eqb c k) (λ t. takes (sign_is k g.0 t) (λ r. (sign_in x, r)) (λ r. refl) (λ r. refl) g.1 (λ m. m) tt) (λ u. faults)
  consumed (Symbol.sign tag p o ∷ ks) st g = turned (signed x st tag p o ks) (consumed ks _ g)
  consumed (Symbol.paren d ∷ ks) st g = by_test (ltb d 16) (λ l. by_test (eqb c 40) (λ t. takes (sign_is 40 refl t) (λ r. ((ltb-true d 16 l, sign_in x), r)) (λ r. refl) (λ r. refl) g (λ m. m.1) tt) (λ u. faults)) (λ l. faults)
  consumed (Symbol.primary o ∷ ks) st g = primary_leads o st ks g
  consumed (Symbol.operand o ∷ ks) st g = operand_leads o st ks g
  consumed (Symbol.factors o ∷ ks) st g = by_test (eqb c 42) (λ t. takes (sign_is 42 refl t) (λ r. (times (sign_in x) r.0 r.1.1.0, r.1.1.1)) (λ r. refl) (λ r. refl) g (λ m. m) tt) (λ u. turned (factors_end x st o ks) (consumed ks st g))
  consumed (Symbol.summands o ∷ ks) st g = summand_leads o st ks g (consumed ks st g)
  consumed (Symbol.calculation ∷ ks) st g = calculation_leads st ks g
  consumed (Symbol.item ∷ ks) st g = item_leads st ks g
  consumed (Symbol.item_tail ∷ ks) st g = by_test (eqb c 126) (λ t. takes (sign_is 126 refl t) (λ r. (reaches (sign_in x) r.0, r.1)) (λ r. refl) (λ r. refl) g (λ m. m) tt) (λ u. turned (item_end x st ks) (consumed ks _ g))
  consumed (Symbol.bound some none p ∷ ks) st g = by_test (begins (seen_with x c)) (λ t. turned (upper x st some none p ks) (calculation_leads st (Symbol.sign some p 0 ∷ ks) g)) (λ u. turned (upper_end x st some none p ks) (consumed ks _ g))
  consumed (Symbol.exception d ∷ ks) st g = by_test (eqb c 33) (λ t. takes (sign_is 33 refl t) (λ r. (excepted (sign_in x) r.0, r.1.1)) (λ r. excepted_spells (sign_in x) r.0 (spell_all ks r.1.1)) (λ r. ap (store_all ks r.1.1) (excepted_stores (sign_in x) r.0 st)) g (λ m. m) tt) (λ u. turned (exception_end x st d ks) (consumed ks st g))
  consumed (Symbol.excluded d ∷ ks) st g = by_test (eqb c 40) (λ t. by_cond (ltb d 16) (λ l. takes (sign_is 40 refl t) (λ r. (excluded_set (ltb-true d 16 l) (sign_in x) r.0 r.1.0, r.1.1)) (λ r. refl) (λ r. refl) (refl, g) (λ m. m) tt) (λ l. faults)) (λ u. turned (excluded_one x st d ks) (item_leads st ks g))
  consumed (Symbol.alternative d ∷ ks) st g = choice_leads d st ks g
  consumed (Symbol.alternatives d ∷ ks) st g = by_test (eqb c 124) (λ t. takes (sign_is 124 refl t) (λ r. (more_choices (sign_in x) (chosen r.0 r.1.1.0), r.1.1.1)) (λ r. ap (λ (v : List Lexeme). sign Kind.Bar (sign_in x) ∷ v) (chosen_spells r.0 r.1.1.0 (spell_all ks r.1.1.1))) (λ r. ap (store_all ks r.1.1.1) (chosen_stores r.0 r.1.1.0 (add 11 0 (place_of x) 0) st)) g (λ m. m) tt) (λ u. turned (choices_end x st d ks) (consumed ks st g))
  consumed (Symbol.value_set d ∷ ks) st g = set_leads d st ks g
  consumed (Symbol.counts ∷ ks) st g = by_test (eqb c 126) (λ t. takes (sign_is 126 refl t) (λ r. (at_most (sign_in x) r.0, r.1.1)) (λ r. refl) (λ r. refl) g (λ m. m) tt) (λ u. turned (counts_begun x st ks) (calculation_leads st (Symbol.counts_tail ∷ ks) g))
  consumed (Symbol.counts_tail ∷ ks) st g = by_test (eqb c 126) (λ t. takes (sign_is 126 refl t) (λ r. (reaches (sign_in x) r.0, r.1)) (λ r. refl) (λ r. refl) g (λ m. m) tt) (λ u. turned (counts_tail_end x st ks) (consumed ks st g))
  consumed (Symbol.test d ∷ ks) st g = test_leads d st ks g
  consumed (Symbol.comparison ∷ ks) st g = comparison_leads st ks g
  consumed (Symbol.condition d ∷ ks) st g = condition_leads d st ks g
  consumed (Symbol.joined d ∷ ks) st g = by_test (eqb c 38) (λ t. takes (sign_is 38 refl t) (λ r. (by_and (sign_in x) (all_from r.0 r.1.1.0), r.1.1.1)) (λ r. ap (λ (v : List Lexeme). sign Kind.Ampersand (sign_in x) ∷ v) (all_from_spells r.0 r.1.1.0 (spell_all ks r.1.1.1))) (λ r. ap (store_all ks r.1.1.1) (all_from_stores r.0 r.1.1.0 (add 13 0 (place_of x) 0) st)) (refl, g) (λ m. m) tt) (λ u. by_test (eqb c 124) (λ t. takes (sign_is 124 refl t) (λ r. (by_or (sign_in x) (any_from r.0 r.1.1.0), r.1.1.1)) (λ r. ap (λ (v : List Lexeme). sign Kind.Bar (sign_in x) ∷ v) (any_from_spells r.0 r.1.1.0 (spell_all ks r.1.1.1))) (λ r. ap (store_all ks r.1.1.1) (any_from_stores r.0 r.1.1.0 (add 11 0 (place_of x) 0) st)) (refl, g) (λ m. m) tt) (λ v. turned (joined_end x st d ks) (consumed ks st g)))
  consumed (Symbol.chain k tag d ∷ ks) st g = by_test (eqb c k) (λ t. takes (sign_is k g.0 t) (λ r. (link (sign_in x) r.0 r.1.1.0, r.1.1.1)) (λ r. refl) (λ r. refl) g (λ m. m) tt) (λ u. turned (chain_end x st k tag d ks) (consumed ks st g.1))
  consumed (Symbol.atom d ∷ ks) st g = atom_leads d st ks g
  consumed (Symbol.factor d ∷ ks) st g = factor_leads d st ks g
  consumed (Symbol.concatenation d ∷ ks) st g = concatenation_leads d st ks g
  consumed (Symbol.expression d ∷ ks) st g = turned (expression_begun x st d ks) (concatenation_leads d st (Symbol.branches d (place_of x) (nodes_of st) false ∷ ks) g)
  consumed (Symbol.marked p i ∷ ks) st g = by_test (eqb c 123) (λ t. takes (sign_is 123 refl t) (λ r. (a_mark (counted (sign_in x) r.0 r.1.0), r.1.1)) (λ r. refl) (λ r. refl) g (λ m. m) tt) (λ u. mark_leads p i st ks g (consumed ks st g))
  consumed (Symbol.counts_end p i mark f ∷ ks) st g = by_test (eqb c 125) (λ t. takes (sign_is 125 refl t) (λ r. (sign_in x, r)) (λ r. refl) (λ r. refl) g (λ m. m) tt) (λ u. faults)
  consumed (Symbol.members d p i many ∷ ks) st g = by_test (eqb c 38) (λ t. takes (sign_is 38 refl t) (λ r. (more_members (sign_in x) (members_from r.0 r.1.0), r.1.1)) (λ r. ap (λ (v : List Lexeme). sign Kind.Ampersand (sign_in x) ∷ v) (members_from_spells r.0 r.1.0 (spell_all ks r.1.1))) (λ r. ap (store_all ks r.1.1) (members_from_on r.0 r.1.0 p i st)) g (λ m. m) tt) (λ u. turned (members_end x st d p i many ks) (consumed ks _ g))
  consumed (Symbol.branches d p i many ∷ ks) st g = by_test (eqb c 124) (λ t. takes (sign_is 124 refl t) (λ r. (more_branches (sign_in x) (branches_from r.0 r.1.0), r.1.1)) (λ r. ap (λ (v : List Lexeme). sign Kind.Bar (sign_in x) ∷ v) (branches_from_spells r.0 r.1.0 (spell_all ks r.1.1))) (λ r. ap (store_all ks r.1.1) (branches_from_on r.0 r.1.0 p i st)) g (λ m. m) tt) (λ u. turned (branches_end x st d p i many ks) (consumed ks _ g))
  consumed (Symbol.character_tail p ∷ ks) st g = by_test (eqb c 126) (λ t. takes (sign_is 126 refl t) (λ r. (to_character (sign_in x) r.0.0 r.0.1, r.1)) (λ r. refl) (λ r. refl) g (λ m. m) tt) (λ u. turned (character_end x st p ks) (consumed ks _ g))
  consumed (Symbol.last_character p ∷ ks) st g = by_test (eqb c 9) (λ t. takes (is_character x next c e t) (λ r. ((literal_in x, is_single x next c e t), r)) (λ r. refl) (λ r. refl) g (λ m. m) tt) (λ u. faults)
  consumed (Symbol.width d p ∷ ks) st g = by_test (eqb c 2) (λ t. takes (is_number x next c e t) (λ r. ((number_in x, r.0, r.1.0), r.1.1)) (λ r. refl) (λ r. refl) (refl, g) (λ m. m) tt) (λ u. faults)
  consumed (Symbol.field_set d p v ∷ ks) st g = by_test (eqb c 8) (λ t. binder_leads d p v st ks g t) (λ u. turned (set_not_bound x st d p v ks) (set_leads d st (Symbol.field_end p v 0 0 (terms_of st) ∷ ks) g))
  consumed (Symbol.bound_name d p v ∷ ks) st g = by_test (name_like c) (λ t. takes (is_name x next c e t) (λ r. ((name_in x, r.0, r.1.0, r.1.1.0, r.1.1.1.0), r.1.1.1.1)) (λ r. refl) (λ r. refl) (refl, (refl, g)) (λ m. m) tt) (λ u. faults)
  consumed (Symbol.field_end p v name how f ∷ ks) st g = by_test (eqb c 41) (λ t. takes (sign_is 41 refl t) (λ r. (sign_in x, r)) (λ r. refl) (λ r. refl) g (λ m. m) tt) (λ u. faults)
  consumed (Symbol.colon d f ∷ ks) st g = by_test (eqb c 58) (λ t. takes (sign_is 58 refl t) (λ r. ((sign_in x, r.0, r.1.0), r.1.1)) (λ r. refl) (λ r. refl) g (λ m. m) tt) (λ u. faults)
  consumed (Symbol.case_end i f end ∷ ks) st g = by_test (eqb c 59) (λ t. takes (sign_is 59 refl t) (λ r. (sign_in x, r)) (λ r. refl) (λ r. refl) g (λ m. m) tt) (λ u. faults)
  consumed (Symbol.cases d p i ∷ ks) st g = by_test (eqb c 93) (λ t. takes (sign_is 93 refl t) (λ r. (no_case (sign_in x), r)) (λ r. refl) (λ r. refl) g (λ m. m) tt) (λ u. by_test (eqb c 58) (λ t. takes (sign_is 58 refl t) (λ r. (default (sign_in x) r.0 r.1.0 r.1.1.0, r.1.1.1)) (λ r. refl) (λ r. refl) (refl, g) (λ m. m) tt) (λ v. turned (case_begun x st d p i ks) (condition_leads d st (Symbol.colon d (terms_of st) ∷ Symbol.cases d p i ∷ ks) g)))
  consumed (Symbol.switch_end p i ∷ ks) st g = by_test (eqb c 93) (λ t. takes (sign_is 93 refl t) (λ r. (sign_in x, r)) (λ r. refl) (λ r. refl) g (λ m. m) tt) (λ u. faults)
  consumed (Symbol.rules any ∷ []) st g = by_test (name_like c) (λ t. takes (is_name x next c e t) (λ r. (rules_from (rule (name_in x) r.0 r.1.0 r.1.1.0) r.1.1.1.0, tt)) (λ r. rules_from_spells any (rule (name_in x) r.0 r.1.0 r.1.1.0) r.1.1.1.0) (λ r. rules_from_stores any (rule (name_in x) r.0 r.1.0 r.1.1.0) r.1.1.1.0 st) (refl, tt) (λ m. m) tt) (λ u. by_test (any && eqb c 5) (λ t. end_leads any st (both_first any (eqb c 5) t) (both_second any (eqb c 5) t)) (λ v. faults))
  consumed (Symbol.rules any ∷ k ∷ ks) st g = absurd g
  consumed (Symbol.rule_end p i ∷ ks) st g = by_test (eqb c 59) (λ t. takes (sign_is 59 refl t) (λ r. (sign_in x, r)) (λ r. refl) (λ r. refl) g (λ m. m) tt) (λ u. faults)

-- opens a step
unfoldable pub stepping : Unit {0}
unfolding turned by_test by_cond by_tag takes consumed primary_leads operand_leads calculation_leads item_leads choice_leads set_leads test_leads condition_leads field_leads switch_leads atom_leads factor_leads concatenation_leads summand_leads comparison_leads mark_leads binder_leads end_leads
stepping = tt
