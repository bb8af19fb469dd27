-- Where the tokens of a text stand, and that each is what stands there: so the names, numbers and literals of a tree that a text spells are the text's.
-- Assumes nothing.
use Prim.Native.Nat.{ℕ, zero, suc, ◌+◌, ◌-◌, ◌≤◌}
use mathlib.Core.Path.{◌≡◌, refl, sym, ap, subst}
use mathlib.Core.Logic.{⊎_elim}
use mathlib.Core.Bool.{true, false}
use mathlib.Core.List.{List, [], ◌∷◌}
use native.Mathlib.Omega.{arith}
use borrow.Author.Tests.{ltb-true}
use lib.Dec.{leb, ltb, eqb}
use lib.ListN.{length, get_or, drop}
use Rattle.basis.proofs.Booleans.{which, picked}
use Rattle.text_header.specs.Bytes.{is_letter, is_digit}
use Rattle.text_header.specs.Spans.{span_end}
use Rattle.text_header.specs.declared.Class.{Class}
use Rattle.text_literals.specs.Literals.{is_quote, literal_at, is_right, characters_at}
use Rattle.text_tokens.specs.Numbers.{number_value}
use Rattle.text_tokens.specs.Names.{name_of}
use Rattle.text_tokens.specs.Tokens.{is_pair, pair_of, sign_of, token, name_token, number_token, literal_token, sign_token, token_begun, gap_end, token_from, token_of}
use Rattle.text_tokens.specs.declared.Kind.{Kind}
use Rattle.text_tokens.specs.declared.Token.{Token}
use Rattle.text_tokens.proofs.Bounds.{begun, Placed, placed}
use Rattle.text_names.specs.Names.{name_at}
use Rattle.tree.specs.Lexemes.{Name, Number, Literal, Lexeme, sign, word, numeral, quoted, stray, finish, place_of, lexeme_as, lexemes_from, lexemes}
use Rattle.tree.specs.Tree.{Primary, number, variable, Operand, plain, opposite, Factors, no_factor, times, Product, product, Summands, no_summand, plus, minus, Calculation, sum, Item, everything, only, between, from, up_to_bound, SetPart, Choices, item, item_but_item, item_but_set, last_choice, or_choices, Counts, exactly, at_least_count, at_most, span, TestPart, Tests, compare, test_group, one_test, all_of, any_of, last_conjunct, and_conjuncts, last_disjunct, or_disjuncts, Mark, optional, any_number, one_or_more, counted, Part, Tree, literal, range, field, binder, rule_use, eod, group, switch, last_case, case_default, case_cases, once, repeated, last_member, and_members, last_branch, or_branches, Rule, rule, Rules, last_rule, and_rules}
use Rattle.tree.specs.Spelling.{spell_primary, spell_operand, spell_factors, spell_product, spell_summands, spell_calculation, spell_item, spell_set, spell_counts, spell_tests, spell_mark, spell, spell_rules, spelled}
use Rattle.tree_meaning.specs.Pieces.{rules_of, rule_name}

-- ---- a name ends where its letters end

abbrev NameEnds : List ℕ → ℕ → ℕ → Kind → Type 0
NameEnds xs i e Kind.Name = e ≡ span_end Class.Name i (drop i xs)
NameEnds xs i e Kind.Number = Unit {0}
NameEnds xs i e Kind.Literal = Unit {0}
NameEnds xs i e Kind.Equal = Unit {0}
NameEnds xs i e Kind.Semicolon = Unit {0}
NameEnds xs i e Kind.Bar = Unit {0}
NameEnds xs i e Kind.Ampersand = Unit {0}
NameEnds xs i e Kind.OpenParen = Unit {0}
NameEnds xs i e Kind.CloseParen = Unit {0}
NameEnds xs i e Kind.OpenBracket = Unit {0}
NameEnds xs i e Kind.CloseBracket = Unit {0}
NameEnds xs i e Kind.OpenBrace = Unit {0}
NameEnds xs i e Kind.CloseBrace = Unit {0}
NameEnds xs i e Kind.Question = Unit {0}
NameEnds xs i e Kind.Star = Unit {0}
NameEnds xs i e Kind.Plus = Unit {0}
NameEnds xs i e Kind.Minus = Unit {0}
NameEnds xs i e Kind.Tilde = Unit {0}
NameEnds xs i e Kind.Bang = Unit {0}
NameEnds xs i e Kind.Comma = Unit {0}
NameEnds xs i e Kind.Colon = Unit {0}
NameEnds xs i e Kind.Less = Unit {0}
NameEnds xs i e Kind.Greater = Unit {0}
NameEnds xs i e Kind.Unequal = Unit {0}
NameEnds xs i e Kind.AtMost = Unit {0}
NameEnds xs i e Kind.AtLeast = Unit {0}
NameEnds xs i e Kind.Fault = Unit {0}
NameEnds xs i e Kind.End = Unit {0}

module _ (xs : List ℕ) (i : ℕ) where
  pair_ends : (e b : ℕ) → NameEnds xs i e (pair_of b)
  pair_ends e b = picked (NameEnds xs i e) (eqb b 33) (λ z. tt) (λ z. picked (NameEnds xs i e) (eqb b 60) (λ z. tt) (λ z. tt))

  sign_ends : (e b : ℕ) → NameEnds xs i e (sign_of b)
  sign_ends e b =
      picked (NameEnds xs i e) (eqb b 61) (λ z. tt)
      (λ z. picked (NameEnds xs i e) (eqb b 59) (λ z. tt)
      (λ z. picked (NameEnds xs i e) (eqb b 124) (λ z. tt)
      (λ z. picked (NameEnds xs i e) (eqb b 38) (λ z. tt)
      (λ z. picked (NameEnds xs i e) (eqb b 40) (λ z. tt)
      (λ z. picked (NameEnds xs i e) (eqb b 41) (λ z. tt)
      (λ z. picked (NameEnds xs i e) (eqb b 91) (λ z. tt)
      (λ z. picked (NameEnds xs i e) (eqb b 93) (λ z. tt)
      (λ z. picked (NameEnds xs i e) (eqb b 123) (λ z. tt)
      (λ z. picked (NameEnds xs i e) (eqb b 125) (λ z. tt)
      (λ z. picked (NameEnds xs i e) (eqb b 63) (λ z. tt)
      (λ z. picked (NameEnds xs i e) (eqb b 42) (λ z. tt)
      (λ z. picked (NameEnds xs i e) (eqb b 43) (λ z. tt)
      (λ z. picked (NameEnds xs i e) (eqb b 45) (λ z. tt)
      (λ z. picked (NameEnds xs i e) (eqb b 126) (λ z. tt)
      (λ z. picked (NameEnds xs i e) (eqb b 33) (λ z. tt)
      (λ z. picked (NameEnds xs i e) (eqb b 44) (λ z. tt)
      (λ z. picked (NameEnds xs i e) (eqb b 58) (λ z. tt)
      (λ z. picked (NameEnds xs i e) (eqb b 60) (λ z. tt)
      (λ z. picked (NameEnds xs i e) (eqb b 62) (λ z. tt) (λ z. tt))))))))))))))))))))

  begun_ends : NameEnds xs i (token_begun xs i).end (token_begun xs i).kind
  unfolding token_begun name_token number_token literal_token sign_token
  begun_ends =
      ⊎_elim (λ (e : is_letter (get_or xs i 0) ≡ true). rw (e, token_begun) (picked (NameEnds xs i (span_end Class.Name i (drop i xs))) (leb (span_end Class.Name i (drop i xs) - i) 32) (λ z. refl) (λ z. tt)))
      (λ (e : is_letter (get_or xs i 0) ≡ false).
      ⊎_elim (λ (f : is_digit (get_or xs i 0) ≡ true). rw (e, f, token_begun) tt)
      (λ (f : is_digit (get_or xs i 0) ≡ false).
      ⊎_elim (λ (g : is_quote (get_or xs i 0) ≡ true). rw (e, f, g, token_begun) (picked (NameEnds xs i (literal_at xs i).end) (is_right (literal_at xs i)) (λ z. tt) (λ z. tt)))
      (λ (g : is_quote (get_or xs i 0) ≡ false). rw (e, f, g, token_begun) sign_begun) (which (is_quote (get_or xs i 0))))
      (which (is_digit (get_or xs i 0))))
      (which (is_letter (get_or xs i 0)))
    where
      sign_begun : NameEnds xs i (sign_token xs i).end (sign_token xs i).kind
      sign_begun =
          ⊎_elim (λ (e : is_pair (get_or xs i 0) (get_or xs (i + 1) 0) ≡ true). rw (e, sign_token) (pair_ends (i + 2) (get_or xs i 0)))
          (λ (e : is_pair (get_or xs i 0) (get_or xs (i + 1) 0) ≡ false). rw (e, sign_token) (sign_ends (i + 1) (get_or xs i 0)))
          (which (is_pair (get_or xs i 0) (get_or xs (i + 1) 0)))

from_ends : (xs : List ℕ) (i : ℕ) → NameEnds xs (token_from xs i).start (token_from xs i).end (token_from xs i).kind
from_ends xs i =
    ⊎_elim
    (λ (z : ltb i (length xs) ≡ true).
    subst (λ (t : Token). NameEnds xs t.start t.end t.kind) (sym (begins z))
    (subst (λ (k : ℕ). NameEnds xs k (token_begun xs i).end (token_begun xs i).kind) (sym (begun xs i (ltb-true i (length xs) z)).here) (begun_ends xs i)))
    (λ (z : ltb i (length xs) ≡ false). subst (λ (t : Token). NameEnds xs t.start t.end t.kind) (sym (finishes z)) tt)
    (which (ltb i (length xs)))
  where
    begins : ltb i (length xs) ≡ true → token_from xs i ≡ token_begun xs i
    begins z = rw (z, token_from)

    finishes : ltb i (length xs) ≡ false → token_from xs i ≡ token i i Kind.End
    finishes z = rw (z, token_from)

token_ends : (xs : List ℕ) (at : ℕ) → NameEnds xs (token_of xs at).start (token_of xs at).end (token_of xs at).kind
unfolding token_of
token_ends xs at = from_ends xs (gap_end false at (drop at xs))

-- ---- tokens that stand in a text

-- what stands at its place is what it says
abbrev pub Shows : List ℕ → Lexeme → Type 0
Shows xs (sign kind s) = Unit {0}
Shows xs (word n) = name_at xs n.start ≡ n.letters
Shows xs (numeral n) = number_value xs n.start ≡ n.value
Shows xs (quoted l) = characters_at xs l.start ≡ l.characters
Shows xs (stray s) = Unit {0}
Shows xs (finish p) = Unit {0}

-- these tokens stand in a text in their order, from p on
pub data Standing (xs : List ℕ) : ℕ → List Lexeme → Type 0 where
  no_token : {p : ℕ} → Standing xs p []
  stands : {p : ℕ} {l : Lexeme} {ls : List Lexeme} → p ≤ place_of l → place_of l ≤ length xs → Shows xs l → Standing xs (place_of l) ls → Standing xs p (l ∷ ls)

pub earlier : {xs : List ℕ} {p q : ℕ} {ls : List Lexeme} → p ≤ q → Standing xs q ls → Standing xs p ls
earlier h no_token = no_token
earlier {p} {q} h (stands {l = l} a b c more) = let d : p ≤ place_of l = omega arith in stands d b c more

-- without the first
pub past : {xs : List ℕ} {p : ℕ} {l : Lexeme} {ls : List Lexeme} → Standing xs p (l ∷ ls) → Standing xs p ls
past (stands a b c more) = earlier a more

pub shown : {xs : List ℕ} {p : ℕ} {l : Lexeme} {ls : List Lexeme} → Standing xs p (l ∷ ls) → Shows xs l
shown (stands a b c more) = c

pub within : {xs : List ℕ} {p : ℕ} {l : Lexeme} {ls : List Lexeme} → Standing xs p (l ∷ ls) → place_of l ≤ length xs
within (stands a b c more) = b

-- ---- the tokens of a text do

module _ (xs : List ℕ) (most : ℕ) (at : ℕ) (t : Token) (h : Placed xs at t) (more : Standing xs t.start (lexemes_from most xs t.end)) where
  -- those from a token on, by its kind
  abbrev tokens_as : Kind → List Lexeme
  tokens_as k =
      elim (lexeme_as xs t k) [
        | sign kind s ↦ sign kind s ∷ lexemes_from most xs s.end
        | word n ↦ word n ∷ lexemes_from most xs n.end
        | numeral n ↦ numeral n ∷ lexemes_from most xs n.end
        | quoted l ↦ quoted l ∷ lexemes_from most xs l.end
        | stray s ↦ stray s ∷ lexemes_from most xs s.end
        | finish p ↦ finish p ∷ []
      ]

  low : t.start ≤ length xs
  low = omega (arith, h.ordered, h.inside)

  standing_as : (k : Kind) → NameEnds xs t.start t.end k → Standing xs at (tokens_as k)
  standing_as Kind.Name e = stands h.after low (sym (ap (λ (q : ℕ). name_of xs t.start q) e)) more
  standing_as Kind.Number e = stands h.after low refl more
  standing_as Kind.Literal e = stands h.after low refl more
  standing_as Kind.Fault e = stands h.after low tt more
  standing_as Kind.End e = stands h.after low tt no_token
  standing_as Kind.Equal e = stands h.after low tt more
  standing_as Kind.Semicolon e = stands h.after low tt more
  standing_as Kind.Bar e = stands h.after low tt more
  standing_as Kind.Ampersand e = stands h.after low tt more
  standing_as Kind.OpenParen e = stands h.after low tt more
  standing_as Kind.CloseParen e = stands h.after low tt more
  standing_as Kind.OpenBracket e = stands h.after low tt more
  standing_as Kind.CloseBracket e = stands h.after low tt more
  standing_as Kind.OpenBrace e = stands h.after low tt more
  standing_as Kind.CloseBrace e = stands h.after low tt more
  standing_as Kind.Question e = stands h.after low tt more
  standing_as Kind.Star e = stands h.after low tt more
  standing_as Kind.Plus e = stands h.after low tt more
  standing_as Kind.Minus e = stands h.after low tt more
  standing_as Kind.Tilde e = stands h.after low tt more
  standing_as Kind.Bang e = stands h.after low tt more
  standing_as Kind.Comma e = stands h.after low tt more
  standing_as Kind.Colon e = stands h.after low tt more
  standing_as Kind.Less e = stands h.after low tt more
  standing_as Kind.Greater e = stands h.after low tt more
  standing_as Kind.Unequal e = stands h.after low tt more
  standing_as Kind.AtMost e = stands h.after low tt more
  standing_as Kind.AtLeast e = stands h.after low tt more

pub lexemes_stand : (most : ℕ) (xs : List ℕ) (at : ℕ) → at ≤ length xs → Standing xs at (lexemes_from most xs at)
unfolding lexemes_from
lexemes_stand zero xs at l = no_token
lexemes_stand (suc most) xs at l =
    let h : Placed xs at (token_of xs at) = placed xs at l in
    standing_as xs most at (token_of xs at) h (earlier h.ordered (lexemes_stand most xs (token_of xs at).end h.inside)) (token_of xs at).kind (token_ends xs at)

-- ---- what follows a part of a tree stands too

pub after_primary : (x : Primary) {xs : List ℕ} {p : ℕ} {w : List Lexeme} → Standing xs p (spell_primary x w) → Standing xs p w
unfolding spell_primary
after_primary (number n) h = past h
after_primary (variable x) h = past h

pub after_operand : (x : Operand) {xs : List ℕ} {p : ℕ} {w : List Lexeme} → Standing xs p (spell_operand x w) → Standing xs p w
unfolding spell_operand
after_operand (plain x) h = after_primary x h
after_operand (opposite s x) h = after_primary x (past h)

pub after_factors : (x : Factors) {xs : List ℕ} {p : ℕ} {w : List Lexeme} → Standing xs p (spell_factors x w) → Standing xs p w
unfolding spell_factors
after_factors no_factor h = h
after_factors (times s x more) h = after_factors more (after_operand x (past h))

pub after_product : (x : Product) {xs : List ℕ} {p : ℕ} {w : List Lexeme} → Standing xs p (spell_product x w) → Standing xs p w
unfolding spell_product
after_product (product x more) h = after_factors more (after_operand x h)

pub after_summands : (x : Summands) {xs : List ℕ} {p : ℕ} {w : List Lexeme} → Standing xs p (spell_summands x w) → Standing xs p w
unfolding spell_summands
after_summands no_summand h = h
after_summands (plus s x more) h = after_summands more (after_product x (past h))
after_summands (minus s x more) h = after_summands more (after_product x (past h))

pub after_calculation : (x : Calculation) {xs : List ℕ} {p : ℕ} {w : List Lexeme} → Standing xs p (spell_calculation x w) → Standing xs p w
unfolding spell_calculation
after_calculation (sum x more) h = after_summands more (after_product x h)

pub after_item : (x : Item) {xs : List ℕ} {p : ℕ} {w : List Lexeme} → Standing xs p (spell_item x w) → Standing xs p w
unfolding spell_item
after_item (everything s) h = past h
after_item (only a) h = after_calculation a h
after_item (between a s b) h = after_calculation b (past (after_calculation a h))
after_item (from a s) h = past (after_calculation a h)
after_item (up_to_bound s b) h = after_calculation b (past h)

pub after_set : {q : SetPart} {d : ℕ} (x : Choices q d) {xs : List ℕ} {p : ℕ} {w : List Lexeme} → Standing xs p (spell_set x w) → Standing xs p w
unfolding spell_set
after_set (item a) h = after_item a h
after_set (item_but_item a s b) h = after_item b (past (after_item a h))
after_set (item_but_set depth a s opens b closes) h = past (after_set b (past (past (after_item a h))))
after_set (last_choice a) h = after_set a h
after_set (or_choices a s b) h = after_set b (past (after_set a h))

pub after_counts : (x : Counts) {xs : List ℕ} {p : ℕ} {w : List Lexeme} → Standing xs p (spell_counts x w) → Standing xs p w
unfolding spell_counts
after_counts (exactly n) h = after_calculation n h
after_counts (at_least_count a s) h = past (after_calculation a h)
after_counts (at_most s b) h = after_calculation b (past h)
after_counts (span a s b) h = after_calculation b (past (after_calculation a h))

pub after_tests : {q : TestPart} {d : ℕ} (x : Tests q d) {xs : List ℕ} {p : ℕ} {w : List Lexeme} → Standing xs p (spell_tests x w) → Standing xs p w
unfolding spell_tests
after_tests (compare a c s b) h = after_calculation b (past (after_calculation a h))
after_tests (test_group depth opens a closes) h = past (after_tests a (past h))
after_tests (one_test a) h = after_tests a h
after_tests (all_of a s b) h = after_tests b (past (after_tests a h))
after_tests (any_of a s b) h = after_tests b (past (after_tests a h))
after_tests (last_conjunct a) h = after_tests a h
after_tests (and_conjuncts a s b) h = after_tests b (past (after_tests a h))
after_tests (last_disjunct a) h = after_tests a h
after_tests (or_disjuncts a s b) h = after_tests b (past (after_tests a h))

pub after_mark : (x : Mark) {xs : List ℕ} {p : ℕ} {w : List Lexeme} → Standing xs p (spell_mark x w) → Standing xs p w
unfolding spell_mark
after_mark (optional s) h = past h
after_mark (any_number s) h = past h
after_mark (one_or_more s) h = past h
after_mark (counted opens n closes) h = past (after_counts n (past h))

pub after_tree : {q : Part} {d : ℕ} (x : Tree q d) {xs : List ℕ} {p : ℕ} {w : List Lexeme} → Standing xs p (spell x w) → Standing xs p w
unfolding spell
after_tree (literal l) h = past h
after_tree (range a s b one one') h = past (past (past h))
after_tree (field signed depth u opens n comma x closes) h = past (after_set x (past (past (past (past h)))))
after_tree (binder signed depth u opens n comma v opens' x comma' y closes closes') h = past (past (after_set y (past (past (past (past (past (past (past (past h))))))))))
after_tree (rule_use x other) h = past h
after_tree (eod s) h = past h
after_tree (group depth opens x closes) h = past (after_tree x (past h))
after_tree (switch depth opens x closes) h = past (after_tree x (past h))
after_tree (last_case c colon x end) h = past (after_tree x (past (after_tests c h)))
after_tree (case_default c colon x end colon' y end') h = past (after_tree y (past (past (after_tree x (past (after_tests c h))))))
after_tree (case_cases c colon x end more) h = after_tree more (past (after_tree x (past (after_tests c h))))
after_tree (once x) h = after_tree x h
after_tree (repeated x m) h = after_mark m (after_tree x h)
after_tree (last_member x) h = after_tree x h
after_tree (and_members x s more) h = after_tree more (past (after_tree x h))
after_tree (last_branch x) h = after_tree x h
after_tree (or_branches x s more) h = after_tree more (past (after_tree x h))

-- ---- the rules of a tree that a text spells

-- the tokens of a text spell this tree
pub record SpelledBy (xs : List ℕ) (t : Rules) : Type 0 where
  pub end : ℕ
  pub spells : lexemes xs ≡ spelled t end

pub spelled_stand : {xs : List ℕ} {t : Rules} (h : SpelledBy xs t) → Standing xs 0 (spelled t h.end)
spelled_stand {xs} {t} h = subst (Standing xs 0) h.spells (lexemes_stand (suc (length xs)) xs 0 (omega arith))

-- names of rules stand in order, from p on and none past `most`
pub data Ascending (most : ℕ) : ℕ → List Rule → Type 0 where
  ascended : {p : ℕ} → Ascending most p []
  ascends : {p : ℕ} {r : Rule} {rs : List Rule} → p ≤ (rule_name r).start → (rule_name r).start ≤ most → Ascending most (rule_name r).start rs → Ascending most p (r ∷ rs)

pub rules_ascend : {xs : List ℕ} (t : Rules) {p : ℕ} (w : List Lexeme) → Standing xs p (spell_rules t w) → Ascending (length xs) p (rules_of t)
unfolding spell_rules rules_of
rules_ascend (last_rule (rule x is e end)) w (stands a b c more) = ascends a b ascended
rules_ascend (and_rules (rule x is e end) ts) w (stands a b c more) = ascends a b (rules_ascend ts w (past (after_tree e (past more))))
