-- Tokens are read as this tree: the steps.
-- Assumes nothing.
use Prim.Native.Nat.{ℕ}
use mathlib.Core.Path.{◌≡◌, refl, ap, ◌∙◌}
use mathlib.Core.Bool.{Bool, true, false}
use mathlib.Core.List.{List, [], ◌∷◌}
use native.Mathlib.Omega.{arith}
use lib.Dec.{eqb, leb}
use Rattle.text_parsing.specs.Terminals.{begin_like}
use Rattle.text_store.specs.Store.{State, nodes_of, terms_of}
use Rattle.text_parsing.specs.Symbols.{Symbol}
use Rattle.text_parsing.specs.Form.{Consumed, consume, primary_begins, operand_begins, item_begins, test_begins, atom_begins}
use Rattle.tree.specs.Lexemes.{Sign, Lexeme, sign, place_of}
use Rattle.tree.specs.Tree.{Primary, Operand, plain, Factors, no_factor, product, Summands, no_summand, Calculation, sum, Item, whole, choice, Choices, item, Comparison, tests, test, Tests, compare, expression, concatenation, factor, atom, cases, Tree}
use Rattle.tree_form.proofs.Classified.{code, opens}
use Rattle.tree_form.proofs.Rests.{no_upper, an_upper, Reach, alone, Exception, no_exception, excluded_item, MoreChoices, no_choice, no_link, Joined, not_joined, Marked, no_mark, MoreMembers, no_member, MoreBranches, no_branch, no_character, plain_set, MoreCases, more_cases, Rests, Ground}
use Rattle.tree_form.proofs.Parts.{item_from, choice_from, chosen, counts_from, tests_from, factor_from, members_from, branches_from, closing, cases_from}
use Rattle.tree_form.proofs.Leading.{Leads, goes, ends, faults, Turns, turned, by_test, by_cond, by_tag, consumed, signed, no_minus, factors_end, summands_end, summed, item_begun, item_end, upper, upper_end, exception_end, excluded_one, one_choice, choices_end, set_begun, counts_begun, counts_tail_end, compared, condition_begun, joined_end, chain_end, factor_begun, concatenation_begun, expression_begun, mark_end, members_end, branches_end, character_end, set_not_bound, case_begun}
use Rattle.tree_form.proofs.Reading.{Parsed, tree, no_tree, mapped, Onward, after, parse, reading}

-- the tokens are read as these rests, whatever was read before them
pub record Reads (w : List Lexeme) (ks : List Symbol) (g : Ground ks) (r : Rests ks) : Type 0 where
  pub read : (st : State) → parse w st ks g ≡ tree r

-- the code of the token that comes next; 0 where none does
abbrev pub head_code : List Lexeme → ℕ
head_code [] = 0
head_code (x ∷ w) = code x (opens w)

-- it is not the one of this code
abbrev pub Not : ℕ → List Lexeme → Type 0
Not k w = eqb (head_code w) k ≡ false

pub onward : {js ks : List Symbol} (f : Rests js → Rests ks) {q : Parsed js} {r : Rests js} → q ≡ tree r → ◌≡◌ {A = Parsed ks} (mapped {js = js} {ks = ks} f q) (tree (f r))
unfolding mapped
onward {js} {ks} f e = ap (mapped {js = js} {ks = ks} f) e

nowhere : {js : List Symbol} {A : Type 0} {r : Rests js} → ◌≡◌ {A = Parsed js} no_tree (tree r) → A
nowhere e = let z : ◌≡◌ {A = ℕ} 0 1 = cc in absurd (omega arith)

-- ---- through a part that is made of others

twice : (is js ks : List Symbol) (f : Rests js → Rests ks) (h : Rests is → Rests js) (q : Parsed is) → ◌≡◌ {A = Parsed ks} (mapped {js = is} {ks = ks} (λ r. f (h r)) q) (mapped {js = js} {ks = ks} f (mapped {js = is} {ks = js} h q))
unfolding mapped
twice is js ks f h (tree r) = refl
twice is js ks f h no_tree = refl

module _ {x : Lexeme} {a b : State} {ks js : List Symbol} (H : Onward) where
  through : {f : Consumed} (T : Turns x a ks b js) (L : Leads x b js f) → ◌≡◌ {A = Parsed ks} (after H (turned T L)) (mapped {js = js} {ks = ks} T.back (after H L))
  unfolding turned after mapped
  through T (goes {st'} {ks'} back s t g m v) = twice ks' js ks T.back back (H st' ks' g)
  through T (ends r q s t) = refl
  through T faults = refl

  pub turning : {f : Consumed} (T : Turns x a ks b js) (L : Leads x b js f) {r : Rests js} → ◌≡◌ {A = Parsed js} (after H L) (tree r) → ◌≡◌ {A = Parsed ks} (after H (turned T L)) (tree (T.back r))
  turning T L e = through T L ∙ onward {js = js} {ks = ks} T.back e

-- ---- past a test that fails

pub test_off : {x : Lexeme} {st : State} {ks : List Symbol} (H : Onward) (t : Bool) {a b : Consumed} (A : t ≡ true → Leads x st ks a) (B : t ≡ false → Leads x st ks b) {q : Parsed ks} → t ≡ false → ((u : t ≡ false) → after H (B u) ≡ q) → after H (by_test t A B) ≡ q
unfolding by_test
test_off H true A B e h = let z : ◌≡◌ {A = ℕ} 0 1 = cc in absurd (omega arith)
test_off H false A B e h = h refl

pub test_on : {x : Lexeme} {st : State} {ks : List Symbol} (H : Onward) (t : Bool) {a b : Consumed} (A : t ≡ true → Leads x st ks a) (B : t ≡ false → Leads x st ks b) {q : Parsed ks} → t ≡ true → ((u : t ≡ true) → after H (A u) ≡ q) → after H (by_test t A B) ≡ q
unfolding by_test
test_on H true A B e h = h refl
test_on H false A B e h = let z : ◌≡◌ {A = ℕ} 0 1 = cc in absurd (omega arith)

pub cond_on : {x : Lexeme} {st : State} {ks : List Symbol} (H : Onward) (t : Bool) {a b : Consumed} (A : t ≡ true → Leads x st ks a) (B : t ≡ false → Leads x st ks b) {q : Parsed ks} → t ≡ true → ((u : t ≡ true) → after H (A u) ≡ q) → after H (by_cond t A B) ≡ q
unfolding by_cond
cond_on H true A B e h = h refl
cond_on H false A B e h = let z : ◌≡◌ {A = ℕ} 0 1 = cc in absurd (omega arith)

pub tag_off : {x : Lexeme} {st : State} {ks : List Symbol} (H : Onward) (F : ℕ → Consumed) (t : Bool) {m n : ℕ} (A : t ≡ true → Leads x st ks (F m)) (B : t ≡ false → Leads x st ks (F n)) {q : Parsed ks} → t ≡ false → ((u : t ≡ false) → after H (B u) ≡ q) → after H (by_tag F t {m = m} {n = n} A B) ≡ q
unfolding by_tag
tag_off H F true A B e h = let z : ◌≡◌ {A = ℕ} 0 1 = cc in absurd (omega arith)
tag_off H F false A B e h = h refl

-- ---- parts that end

pub past_sign : (tag p o : ℕ) (w : List Lexeme) {ks : List Symbol} {g : Ground ks} {r : Rests ks} → Reads w ks g r → Reads w (Symbol.sign tag p o ∷ ks) g (tt, r)
unfolding reading
past_sign tag p o [] h = record { read = λ st. nowhere (h.read st) }
past_sign tag p o (y ∷ w) {ks} {g} h = record { read = λ st. turning _ (signed y st tag p o ks) (consumed y (opens w) (code y (opens w)) refl ks _ g) (h.read _) }

pub past_factors : (o : ℕ) (w : List Lexeme) {ks : List Symbol} {g : Ground ks} {r : Rests ks} → Not 42 w → Reads w ks g r → Reads w (Symbol.factors o ∷ ks) g (no_factor, r)
unfolding reading
past_factors o [] f0 h = record { read = λ st. nowhere (h.read st) }
past_factors o (y ∷ w) {ks} {g} f0 h = record { read = λ st. test_off _ _ _ _ f0 (λ u0. turning _ (factors_end y st o ks) (consumed y (opens w) (code y (opens w)) refl ks _ g) (h.read _)) }

pub past_summands : (o : ℕ) (w : List Lexeme) {ks : List Symbol} {g : Ground ks} {r : Rests ks} → Not 43 w → Not 45 w → Reads w ks g r → Reads w (Symbol.summands o ∷ ks) g (no_summand, r)
unfolding reading
past_summands o [] f0 f1 h = record { read = λ st. nowhere (h.read st) }
past_summands o (y ∷ w) {ks} {g} f0 f1 h = record { read = λ st. tag_off _ _ _ _ _ f0 (λ u0. tag_off _ _ _ _ _ f1 (λ u1. turning _ (summands_end y st o ks) (consumed y (opens w) (code y (opens w)) refl ks _ g) (h.read _))) }

pub past_item : (w : List Lexeme) {ks : List Symbol} {g : Ground ks} {r : Rests ks} → Not 126 w → Reads w ks g r → Reads w (Symbol.item_tail ∷ ks) g (alone, r)
unfolding reading
past_item [] f0 h = record { read = λ st. nowhere (h.read st) }
past_item (y ∷ w) {ks} {g} f0 h = record { read = λ st. test_off _ _ _ _ f0 (λ u0. turning _ (item_end y st ks) (consumed y (opens w) (code y (opens w)) refl ks _ g) (h.read _)) }

pub past_upper : (some none p : ℕ) (w : List Lexeme) {ks : List Symbol} {g : Ground ks} {r : Rests ks} → begin_like (head_code w) ≡ false → Reads w ks g r → Reads w (Symbol.bound some none p ∷ ks) g (no_upper, r)
unfolding reading
past_upper some none p [] f0 h = record { read = λ st. nowhere (h.read st) }
past_upper some none p (y ∷ w) {ks} {g} f0 h = record { read = λ st. test_off _ _ _ _ f0 (λ u0. turning _ (upper_end y st some none p ks) (consumed y (opens w) (code y (opens w)) refl ks _ g) (h.read _)) }

pub past_exception : (d : ℕ) (w : List Lexeme) {ks : List Symbol} {g : Ground ks} {r : Rests ks} → Not 33 w → Reads w ks g r → Reads w (Symbol.exception d ∷ ks) g (no_exception, r)
unfolding reading
past_exception d [] f0 h = record { read = λ st. nowhere (h.read st) }
past_exception d (y ∷ w) {ks} {g} f0 h = record { read = λ st. test_off _ _ _ _ f0 (λ u0. turning _ (exception_end y st d ks) (consumed y (opens w) (code y (opens w)) refl ks _ g) (h.read _)) }

pub past_choices : (d : ℕ) (w : List Lexeme) {ks : List Symbol} {g : Ground ks} {r : Rests ks} → Not 124 w → Reads w ks g r → Reads w (Symbol.alternatives d ∷ ks) g (no_choice, r)
unfolding reading
past_choices d [] f0 h = record { read = λ st. nowhere (h.read st) }
past_choices d (y ∷ w) {ks} {g} f0 h = record { read = λ st. test_off _ _ _ _ f0 (λ u0. turning _ (choices_end y st d ks) (consumed y (opens w) (code y (opens w)) refl ks _ g) (h.read _)) }

pub past_counts : (w : List Lexeme) {ks : List Symbol} {g : Ground ks} {r : Rests ks} → Not 126 w → Reads w ks g r → Reads w (Symbol.counts_tail ∷ ks) g (alone, r)
unfolding reading
past_counts [] f0 h = record { read = λ st. nowhere (h.read st) }
past_counts (y ∷ w) {ks} {g} f0 h = record { read = λ st. test_off _ _ _ _ f0 (λ u0. turning _ (counts_tail_end y st ks) (consumed y (opens w) (code y (opens w)) refl ks _ g) (h.read _)) }

pub past_joined : (d : ℕ) (w : List Lexeme) {ks : List Symbol} {g : Ground ks} {r : Rests ks} → Not 38 w → Not 124 w → Reads w ks g r → Reads w (Symbol.joined d ∷ ks) g (not_joined, r)
unfolding reading
past_joined d [] f0 f1 h = record { read = λ st. nowhere (h.read st) }
past_joined d (y ∷ w) {ks} {g} f0 f1 h = record { read = λ st. test_off _ _ _ _ f0 (λ u0. test_off _ _ _ _ f1 (λ u1. turning _ (joined_end y st d ks) (consumed y (opens w) (code y (opens w)) refl ks _ g) (h.read _))) }

pub past_mark : (p i : ℕ) (w : List Lexeme) {ks : List Symbol} {g : Ground ks} {r : Rests ks} → Not 123 w → Not 63 w → Not 42 w → Not 43 w → Reads w ks g r → Reads w (Symbol.marked p i ∷ ks) g (no_mark, r)
unfolding reading
past_mark p i [] f0 f1 f2 f3 h = record { read = λ st. nowhere (h.read st) }
past_mark p i (y ∷ w) {ks} {g} f0 f1 f2 f3 h = record { read = λ st. test_off _ _ _ _ f0 (λ u0. tag_off _ _ _ _ _ f1 (λ u1. tag_off _ _ _ _ _ f2 (λ u2. tag_off _ _ _ _ _ f3 (λ u3. turning _ (mark_end y st p i ks) (consumed y (opens w) (code y (opens w)) refl ks _ g) (h.read _))))) }

pub past_members : (d p i : ℕ) (many : Bool) (w : List Lexeme) {ks : List Symbol} {g : Ground ks} {r : Rests ks} → Not 38 w → Reads w ks g r → Reads w (Symbol.members d p i many ∷ ks) g (no_member, r)
unfolding reading
past_members d p i many [] f0 h = record { read = λ st. nowhere (h.read st) }
past_members d p i many (y ∷ w) {ks} {g} f0 h = record { read = λ st. test_off _ _ _ _ f0 (λ u0. turning _ (members_end y st d p i many ks) (consumed y (opens w) (code y (opens w)) refl ks _ g) (h.read _)) }

pub past_branches : (d p i : ℕ) (many : Bool) (w : List Lexeme) {ks : List Symbol} {g : Ground ks} {r : Rests ks} → Not 124 w → Reads w ks g r → Reads w (Symbol.branches d p i many ∷ ks) g (no_branch, r)
unfolding reading
past_branches d p i many [] f0 h = record { read = λ st. nowhere (h.read st) }
past_branches d p i many (y ∷ w) {ks} {g} f0 h = record { read = λ st. test_off _ _ _ _ f0 (λ u0. turning _ (branches_end y st d p i many ks) (consumed y (opens w) (code y (opens w)) refl ks _ g) (h.read _)) }

pub past_character : (p : ℕ) (w : List Lexeme) {ks : List Symbol} {g : Ground ks} {r : Rests ks} → Not 126 w → Reads w ks g r → Reads w (Symbol.character_tail p ∷ ks) g (no_character, r)
unfolding reading
past_character p [] f0 h = record { read = λ st. nowhere (h.read st) }
past_character p (y ∷ w) {ks} {g} f0 h = record { read = λ st. test_off _ _ _ _ f0 (λ u0. turning _ (character_end y st p ks) (consumed y (opens w) (code y (opens w)) refl ks _ g) (h.read _)) }

pub past_chain : (k tag d : ℕ) (l : leb 10 k ≡ true) (w : List Lexeme) {ks : List Symbol} {g : Ground ks} {r : Rests ks} → Not k w → Reads w ks g r → Reads w (Symbol.chain k tag d ∷ ks) (l, g) (no_link, r)
unfolding reading
past_chain k tag d l [] f0 h = record { read = λ st. nowhere (h.read st) }
past_chain k tag d l (y ∷ w) {ks} {g} f0 h = record { read = λ st. test_off _ _ _ _ f0 (λ u. turning _ (chain_end y st k tag d ks) (consumed y (opens w) (code y (opens w)) refl ks _ g) (h.read _)) }

-- ---- parts that are made of others

pub begin_operand : (o : ℕ) (w : List Lexeme) {ks : List Symbol} {g : Ground ks} {a : Primary} {r : Rests ks} → Not 45 w → Reads w (Symbol.primary o ∷ ks) g (a, r) → Reads w (Symbol.operand o ∷ ks) g (plain a, r)
unfolding reading consume primary_begins operand_begins item_begins test_begins atom_begins
begin_operand o [] f0 h = record { read = λ st. nowhere (h.read st) }
begin_operand o (y ∷ w) {ks} {g} f0 h = record { read = λ st. test_off _ _ _ _ f0 (λ u0. turning (λ st' ks' g'. parse w st' ks' g') (no_minus y st o ks) (consumed y (opens w) (code y (opens w)) refl (Symbol.primary o ∷ ks) st g) (h.read st)) }

pub begin_calculation : (w : List Lexeme) {ks : List Symbol} {g : Ground ks} {a : Operand} {b : Factors} {c : Summands} {r : Rests ks} → ((o : ℕ) → Reads w (Symbol.operand o ∷ Symbol.factors o ∷ Symbol.summands o ∷ ks) g (a, (b, (c, r)))) → Reads w (Symbol.calculation ∷ ks) g (sum (product a b) c, r)
unfolding reading consume primary_begins operand_begins item_begins test_begins atom_begins
begin_calculation [] h = record { read = λ st. nowhere ((h 0).read st) }
begin_calculation (y ∷ w) {ks} {g} h = record { read = λ st. turning (λ st' ks' g'. parse w st' ks' g') (summed y st ks) (consumed y (opens w) (code y (opens w)) refl (Symbol.operand (place_of y) ∷ Symbol.factors (place_of y) ∷ Symbol.summands (place_of y) ∷ ks) st g) ((h (place_of y)).read st) }

pub begin_item : (w : List Lexeme) {ks : List Symbol} {g : Ground ks} {a : Calculation} {u : Reach} {r : Rests ks} → Not 126 w → Reads w (Symbol.calculation ∷ Symbol.item_tail ∷ ks) g (a, (u, r)) → Reads w (Symbol.item ∷ ks) g (item_from a u, r)
unfolding reading consume primary_begins operand_begins item_begins test_begins atom_begins
begin_item [] f0 h = record { read = λ st. nowhere (h.read st) }
begin_item (y ∷ w) {ks} {g} f0 h = record { read = λ st. test_off _ _ _ _ f0 (λ u0. turning (λ st' ks' g'. parse w st' ks' g') (item_begun y st ks) (consumed y (opens w) (code y (opens w)) refl (Symbol.calculation ∷ Symbol.item_tail ∷ ks) st g) (h.read st)) }

pub begin_upper : (some none p : ℕ) (w : List Lexeme) {ks : List Symbol} {g : Ground ks} {a : Calculation} {r : Rests ks} → begin_like (head_code w) ≡ true → Reads w (Symbol.calculation ∷ Symbol.sign some p 0 ∷ ks) g (a, (tt, r)) → Reads w (Symbol.bound some none p ∷ ks) g (an_upper a, r)
unfolding reading consume primary_begins operand_begins item_begins test_begins atom_begins
begin_upper some none p [] f0 h = record { read = λ st. nowhere (h.read st) }
begin_upper some none p (y ∷ w) {ks} {g} f0 h = record { read = λ st. test_on _ _ _ _ f0 (λ u0. turning (λ st' ks' g'. parse w st' ks' g') (upper y st some none p ks) (consumed y (opens w) (code y (opens w)) refl (Symbol.calculation ∷ Symbol.sign some p 0 ∷ ks) st g) (h.read st)) }

pub begin_excluded : (d : ℕ) (w : List Lexeme) {ks : List Symbol} {g : Ground ks} {a : Item} {r : Rests ks} → Not 40 w → Reads w (Symbol.item ∷ ks) g (a, r) → Reads w (Symbol.excluded d ∷ ks) g (excluded_item a, r)
unfolding reading consume primary_begins operand_begins item_begins test_begins atom_begins
begin_excluded d [] f0 h = record { read = λ st. nowhere (h.read st) }
begin_excluded d (y ∷ w) {ks} {g} f0 h = record { read = λ st. test_off _ _ _ _ f0 (λ u0. turning (λ st' ks' g'. parse w st' ks' g') (excluded_one y st d ks) (consumed y (opens w) (code y (opens w)) refl (Symbol.item ∷ ks) st g) (h.read st)) }

pub begin_choice : (d : ℕ) (w : List Lexeme) {ks : List Symbol} {g : Ground ks} {i : Item} {u : Exception d} {r : Rests ks} → Reads w (Symbol.item ∷ Symbol.exception d ∷ ks) g (i, (u, r)) → Reads w (Symbol.alternative d ∷ ks) g (choice_from i u, r)
unfolding reading consume primary_begins operand_begins item_begins test_begins atom_begins
begin_choice d [] h = record { read = λ st. nowhere (h.read st) }
begin_choice d (y ∷ w) {ks} {g} h = record { read = λ st. turning (λ st' ks' g'. parse w st' ks' g') (one_choice y st d ks) (consumed y (opens w) (code y (opens w)) refl (Symbol.item ∷ Symbol.exception d ∷ ks) st g) (h.read st) }

pub begin_set : (d : ℕ) (w : List Lexeme) {ks : List Symbol} {g : Ground ks} {a : Choices choice d} {u : MoreChoices d} {r : Rests ks} → Reads w (Symbol.alternative d ∷ Symbol.alternatives d ∷ ks) g (a, (u, r)) → Reads w (Symbol.value_set d ∷ ks) g (chosen a u, r)
unfolding reading consume primary_begins operand_begins item_begins test_begins atom_begins
begin_set d [] h = record { read = λ st. nowhere (h.read st) }
begin_set d (y ∷ w) {ks} {g} h = record { read = λ st. turning (λ st' ks' g'. parse w st' ks' g') (set_begun y st d ks) (consumed y (opens w) (code y (opens w)) refl (Symbol.alternative d ∷ Symbol.alternatives d ∷ ks) st g) (h.read st) }

pub begin_counts : (w : List Lexeme) {ks : List Symbol} {g : Ground ks} {a : Calculation} {u : Reach} {r : Rests ks} → Not 126 w → Reads w (Symbol.calculation ∷ Symbol.counts_tail ∷ ks) g (a, (u, r)) → Reads w (Symbol.counts ∷ ks) g (counts_from a u, r)
unfolding reading consume primary_begins operand_begins item_begins test_begins atom_begins
begin_counts [] f0 h = record { read = λ st. nowhere (h.read st) }
begin_counts (y ∷ w) {ks} {g} f0 h = record { read = λ st. test_off _ _ _ _ f0 (λ u0. turning (λ st' ks' g'. parse w st' ks' g') (counts_begun y st ks) (consumed y (opens w) (code y (opens w)) refl (Symbol.calculation ∷ Symbol.counts_tail ∷ ks) st g) (h.read st)) }

pub begin_test : (d : ℕ) (w : List Lexeme) {ks : List Symbol} {g : Ground ks} {a : Calculation} {u : Comparison × Sign × Calculation} {r : Rests ks} → Not 40 w → Reads w (Symbol.calculation ∷ Symbol.comparison ∷ ks) g (a, (u, r)) → Reads w (Symbol.test d ∷ ks) g (compare a u.0 u.1 u.2, r)
unfolding reading consume primary_begins operand_begins item_begins test_begins atom_begins
begin_test d [] f0 h = record { read = λ st. nowhere (h.read st) }
begin_test d (y ∷ w) {ks} {g} f0 h = record { read = λ st. test_off _ _ _ _ f0 (λ u0. turning (λ st' ks' g'. parse w st' ks' g') (compared y st d ks) (consumed y (opens w) (code y (opens w)) refl (Symbol.calculation ∷ Symbol.comparison ∷ ks) st g) (h.read st)) }

pub begin_condition : (d : ℕ) (w : List Lexeme) {ks : List Symbol} {g : Ground ks} {a : Tests test d} {u : Joined d} {r : Rests ks} → Reads w (Symbol.test d ∷ Symbol.joined d ∷ ks) g (a, (u, r)) → Reads w (Symbol.condition d ∷ ks) g (tests_from a u, r)
unfolding reading consume primary_begins operand_begins item_begins test_begins atom_begins
begin_condition d [] h = record { read = λ st. nowhere (h.read st) }
begin_condition d (y ∷ w) {ks} {g} h = record { read = λ st. turning (λ st' ks' g'. parse w st' ks' g') (condition_begun y st d ks) (consumed y (opens w) (code y (opens w)) refl (Symbol.test d ∷ Symbol.joined d ∷ ks) st g) (h.read st) }

pub begin_factor : (d : ℕ) (w : List Lexeme) {ks : List Symbol} {g : Ground ks} {a : Tree atom d} {u : Marked} {r : Rests ks} → ((p i : ℕ) → Reads w (Symbol.atom d ∷ Symbol.marked p i ∷ ks) g (a, (u, r))) → Reads w (Symbol.factor d ∷ ks) g (factor_from a u, r)
unfolding reading consume primary_begins operand_begins item_begins test_begins atom_begins
begin_factor d [] h = record { read = λ st. nowhere ((h 0 0).read st) }
begin_factor d (y ∷ w) {ks} {g} h = record { read = λ st. turning (λ st' ks' g'. parse w st' ks' g') (factor_begun y st d ks) (consumed y (opens w) (code y (opens w)) refl (Symbol.atom d ∷ Symbol.marked (place_of y) (nodes_of st) ∷ ks) st g) ((h (place_of y) (nodes_of st)).read st) }

pub begin_concatenation : (d : ℕ) (w : List Lexeme) {ks : List Symbol} {g : Ground ks} {a : Tree factor d} {u : MoreMembers d} {r : Rests ks} → ((p i : ℕ) → Reads w (Symbol.factor d ∷ Symbol.members d p i false ∷ ks) g (a, (u, r))) → Reads w (Symbol.concatenation d ∷ ks) g (members_from a u, r)
unfolding reading consume primary_begins operand_begins item_begins test_begins atom_begins
begin_concatenation d [] h = record { read = λ st. nowhere ((h 0 0).read st) }
begin_concatenation d (y ∷ w) {ks} {g} h = record { read = λ st. turning (λ st' ks' g'. parse w st' ks' g') (concatenation_begun y st d ks) (consumed y (opens w) (code y (opens w)) refl (Symbol.factor d ∷ Symbol.members d (place_of y) (nodes_of st) false ∷ ks) st g) ((h (place_of y) (nodes_of st)).read st) }

pub begin_expression : (d : ℕ) (w : List Lexeme) {ks : List Symbol} {g : Ground ks} {a : Tree concatenation d} {u : MoreBranches d} {r : Rests ks} → ((p i : ℕ) → Reads w (Symbol.concatenation d ∷ Symbol.branches d p i false ∷ ks) g (a, (u, r))) → Reads w (Symbol.expression d ∷ ks) g (branches_from a u, r)
unfolding reading consume primary_begins operand_begins item_begins test_begins atom_begins
begin_expression d [] h = record { read = λ st. nowhere ((h 0 0).read st) }
begin_expression d (y ∷ w) {ks} {g} h = record { read = λ st. turning (λ st' ks' g'. parse w st' ks' g') (expression_begun y st d ks) (consumed y (opens w) (code y (opens w)) refl (Symbol.concatenation d ∷ Symbol.branches d (place_of y) (nodes_of st) false ∷ ks) st g) ((h (place_of y) (nodes_of st)).read st) }

pub begin_field_set : (d p v : ℕ) (w : List Lexeme) {ks : List Symbol} {g : Ground ks} {a : Choices whole d} {c : Sign} {r : Rests ks} → Not 8 w → ((f : ℕ) → Reads w (Symbol.value_set d ∷ Symbol.field_end p v 0 0 f ∷ ks) g (a, (c, r))) → Reads w (Symbol.field_set d p v ∷ ks) g (plain_set a c, r)
unfolding reading consume primary_begins operand_begins item_begins test_begins atom_begins
begin_field_set d p v [] f0 h = record { read = λ st. nowhere ((h 0).read st) }
begin_field_set d p v (y ∷ w) {ks} {g} f0 h = record { read = λ st. test_off _ _ _ _ f0 (λ u0. turning (λ st' ks' g'. parse w st' ks' g') (set_not_bound y st d p v ks) (consumed y (opens w) (code y (opens w)) refl (Symbol.value_set d ∷ Symbol.field_end p v 0 0 (terms_of st) ∷ ks) st g) ((h (terms_of st)).read st)) }

pub begin_cases : (d p i : ℕ) (w : List Lexeme) {ks : List Symbol} {g : Ground ks} {a : Tests tests d} {k : Sign × Tree expression d × Sign} {u : MoreCases d} {r : Rests ks} → Not 93 w → Not 58 w → ((f : ℕ) → Reads w (Symbol.condition d ∷ Symbol.colon d f ∷ Symbol.cases d p i ∷ ks) g (a, (k, (u, r)))) → Reads w (Symbol.cases d p i ∷ ks) g (more_cases (cases_from a k.0 k.1 k.2 u) (closing u), r)
unfolding reading consume primary_begins operand_begins item_begins test_begins atom_begins
begin_cases d p i [] f0 f1 h = record { read = λ st. nowhere ((h 0).read st) }
begin_cases d p i (y ∷ w) {ks} {g} f0 f1 h = record { read = λ st. test_off _ _ _ _ f0 (λ u0. test_off _ _ _ _ f1 (λ u1. turning (λ st' ks' g'. parse w st' ks' g') (case_begun y st d p i ks) (consumed y (opens w) (code y (opens w)) refl (Symbol.condition d ∷ Symbol.colon d (terms_of st) ∷ Symbol.cases d p i ∷ ks) st g) ((h (terms_of st)).read st))) }
