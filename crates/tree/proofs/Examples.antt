-- Worked examples: a text's tokens are the spelling of a tree, by computation.
-- Assumes nothing.
use Prim.Native.Nat.{ℕ, ◌<◌}
use Prim.Native.Char.{code}
use Prim.Native.String.{String, [] as end, ◌∷◌ as ◌then◌}
use mathlib.Core.Path.{◌≡◌, refl}
use mathlib.Core.Bool.{true, false}
use mathlib.Core.List.{List, [], ◌∷◌}
use borrow.Author.Tests.{ltb-true}
use lib.Dec.{ltb}
use Rattle.text_header.specs.Spans.{span_end, starts}
use Rattle.text_literals.specs.Literals.{literal_reach, characters}
use Rattle.text_tokens.specs.Numbers.{radix_at, digits_at, number_end_of, digits_value}
use Rattle.text_tokens.specs.Tokens.{gap_end, name_token, number_token, literal_token, sign_token, token_begun, token_of}
use Rattle.tree.specs.Lexemes.{Sign, Name, Number, Literal, Lexeme, lexemes_from, lexemes}
use Rattle.tree.specs.Tree.{number, variable, plain, opposite, no_factor, times, product, no_summand, plus, minus, sum, everything, only, between, from, up_to_bound, item, item_but_item, item_but_set, last_choice, or_choices, exactly, at_least_count, at_most, span, equal, unequal, less, at_most_as, greater, at_least_as, compare, test_group, one_test, all_of, any_of, last_conjunct, and_conjuncts, last_disjunct, or_disjuncts, optional, any_number, one_or_more, counted, literal, range, field, binder, rule_use, eod, group, switch, last_case, case_default, case_cases, once, repeated, last_member, and_members, last_branch, or_branches, Rules, rule, last_rule, and_rules}
use Rattle.tree.specs.Spelling.{spell_primary, spell_operand, spell_factors, spell_product, spell_summands, spell_calculation, spell_item, spell_set, spell_counts, spell_tests, spell_mark, spell, spell_rules, spelled}

-- a character below 128 is one byte
unfoldable pub bytes : String → List ℕ
bytes end = []
bytes (c then s) = code c ∷ bytes s

abbrev pub at : ℕ → ℕ → Sign
at a b = record { start = a; end = b }

abbrev pub named : ℕ → ℕ → List ℕ → Name
named a b letters = record { start = a; end = b; letters = letters }

abbrev pub counting : ℕ → ℕ → ℕ → Number
counting a b v = record { start = a; end = b; value = v }

abbrev pub quoting : ℕ → ℕ → List ℕ → Literal
quoting a b l = record { start = a; end = b; characters = l }

-- a depth
pub below : (n : ℕ) → ltb n 16 ≡ true → n < 16
below n e = ltb-true n 16 e

-- the tokens of a text, computed
unfoldable pub tokens : String → List Lexeme
unfolding bytes lexemes_from token_of gap_end token_begun name_token number_token literal_token sign_token span_end number_end_of digits_at radix_at digits_value literal_reach characters
tokens text = lexemes (bytes text)

-- the tokens of a tree, computed
unfoldable pub spelling : Rules → ℕ → List Lexeme
unfolding bytes spell_primary spell_operand spell_factors spell_product spell_summands spell_calculation spell_item spell_set spell_counts spell_tests spell_mark spell spell_rules
spelling t n = spelled t n

-- K1's rules: `frame = uint(8, var(len, 1~8)) & uint(8, ~){len};`
unfoldable pub k1_tree : Rules
unfolding bytes starts
k1_tree = last_rule (rule (named 0 5 (bytes "frame")) (at 6 7) (last_branch (and_members (once (binder false (below 1 refl) (at 8 12) (at 12 13) (counting 13 14 8) (at 14 15) (at 16 19) (at 19 20) (named 20 23 (bytes "len")) (at 23 24) (last_choice (item (between (sum (product (plain (number (counting 25 26 1))) no_factor) no_summand) (at 26 27) (sum (product (plain (number (counting 27 28 8))) no_factor) no_summand)))) (at 28 29) (at 29 30))) (at 31 32) (last_member (repeated (field false (below 0 refl) (at 33 37) (at 37 38) (counting 38 39 8) (at 39 40) (last_choice (item (everything (at 41 42)))) (at 42 43)) (counted (at 43 44) (exactly (sum (product (plain (variable (named 44 47 (bytes "len")))) no_factor) no_summand)) (at 47 48)))))) (at 48 49))

pub k1 : tokens "frame = uint(8, var(len, 1~8)) & uint(8, ~){len};" ≡ spelling k1_tree 49
unfolding tokens spelling k1_tree
k1 = refl

-- `*` before `+`: `a = b{a + b * c};`
unfoldable pub calculation_tree : Rules
unfolding bytes starts
calculation_tree = last_rule (rule (named 0 1 (bytes "a")) (at 2 3) (last_branch (last_member (repeated (rule_use (named 4 5 (bytes "b")) refl) (counted (at 5 6) (exactly (sum (product (plain (variable (named 6 7 (bytes "a")))) no_factor) (plus (at 8 9) (product (plain (variable (named 10 11 (bytes "b")))) (times (at 12 13) (plain (variable (named 14 15 (bytes "c")))) no_factor)) no_summand))) (at 15 16))))) (at 16 17))

pub calculation : tokens "a = b{a + b * c};" ≡ spelling calculation_tree 17
unfolding tokens spelling calculation_tree
calculation = refl

-- from the left, and a unary minus: `a = b{-a * 2 - b + 3};`
unfoldable pub signs_tree : Rules
unfolding bytes starts
signs_tree = last_rule (rule (named 0 1 (bytes "a")) (at 2 3) (last_branch (last_member (repeated (rule_use (named 4 5 (bytes "b")) refl) (counted (at 5 6) (exactly (sum (product (opposite (at 6 7) (variable (named 7 8 (bytes "a")))) (times (at 9 10) (plain (number (counting 11 12 2))) no_factor)) (minus (at 13 14) (product (plain (variable (named 15 16 (bytes "b")))) no_factor) (plus (at 17 18) (product (plain (number (counting 19 20 3))) no_factor) no_summand)))) (at 20 21))))) (at 21 22))

pub signs : tokens "a = b{-a * 2 - b + 3};" ≡ spelling signs_tree 22
unfolding tokens spelling signs_tree
signs = refl

-- items of expressions, and repetition marks: `a = 'a'~'z'? & "bc"* | (b | eod)+ & b{2~3} & b{2~} & b{~3}; b = a;`
unfoldable pub items_tree : Rules
unfolding bytes starts
items_tree = and_rules (rule (named 0 1 (bytes "a")) (at 2 3) (or_branches (and_members (repeated (range (quoting 4 7 (bytes "a")) (at 7 8) (quoting 8 11 (bytes "z")) refl refl) (optional (at 11 12))) (at 13 14) (last_member (repeated (literal (quoting 15 19 (bytes "bc"))) (any_number (at 19 20))))) (at 21 22) (last_branch (and_members (repeated (group (below 0 refl) (at 23 24) (or_branches (last_member (once (rule_use (named 24 25 (bytes "b")) refl))) (at 26 27) (last_branch (last_member (once (eod (at 28 31)))))) (at 31 32)) (one_or_more (at 32 33))) (at 34 35) (and_members (repeated (rule_use (named 36 37 (bytes "b")) refl) (counted (at 37 38) (span (sum (product (plain (number (counting 38 39 2))) no_factor) no_summand) (at 39 40) (sum (product (plain (number (counting 40 41 3))) no_factor) no_summand)) (at 41 42))) (at 43 44) (and_members (repeated (rule_use (named 45 46 (bytes "b")) refl) (counted (at 46 47) (at_least_count (sum (product (plain (number (counting 47 48 2))) no_factor) no_summand) (at 48 49)) (at 49 50))) (at 51 52) (last_member (repeated (rule_use (named 53 54 (bytes "b")) refl) (counted (at 54 55) (at_most (at 55 56) (sum (product (plain (number (counting 56 57 3))) no_factor) no_summand)) (at 57 58))))))))) (at 58 59)) (last_rule (rule (named 60 61 (bytes "b")) (at 62 63) (last_branch (last_member (once (rule_use (named 64 65 (bytes "a")) refl)))) (at 65 66)))

pub items : tokens "a = 'a'~'z'? & \"bc\"* | (b | eod)+ & b{2~3} & b{2~} & b{~3}; b = a;" ≡ spelling items_tree 66
unfolding tokens spelling items_tree
items = refl

-- sets: `a = uint(8, ~ | 1 | 2~3 ! 2 | 4~ ! (5 | 6) | ~7);`
unfoldable pub sets_tree : Rules
unfolding bytes starts
sets_tree = last_rule (rule (named 0 1 (bytes "a")) (at 2 3) (last_branch (last_member (once (field false (below 0 refl) (at 4 8) (at 8 9) (counting 9 10 8) (at 10 11) (or_choices (item (everything (at 12 13))) (at 14 15) (or_choices (item (only (sum (product (plain (number (counting 16 17 1))) no_factor) no_summand))) (at 18 19) (or_choices (item_but_item (between (sum (product (plain (number (counting 20 21 2))) no_factor) no_summand) (at 21 22) (sum (product (plain (number (counting 22 23 3))) no_factor) no_summand)) (at 24 25) (only (sum (product (plain (number (counting 26 27 2))) no_factor) no_summand))) (at 28 29) (or_choices (item_but_set (below 1 refl) (from (sum (product (plain (number (counting 30 31 4))) no_factor) no_summand) (at 31 32)) (at 33 34) (at 35 36) (or_choices (item (only (sum (product (plain (number (counting 36 37 5))) no_factor) no_summand))) (at 38 39) (last_choice (item (only (sum (product (plain (number (counting 40 41 6))) no_factor) no_summand))))) (at 41 42)) (at 43 44) (last_choice (item (up_to_bound (at 45 46) (sum (product (plain (number (counting 46 47 7))) no_factor) no_summand)))))))) (at 47 48))))) (at 48 49))

pub sets : tokens "a = uint(8, ~ | 1 | 2~3 ! 2 | 4~ ! (5 | 6) | ~7);" ≡ spelling sets_tree 49
unfolding tokens spelling sets_tree
sets = refl

-- signed fields: `a = sint(4, -3~2) & sint(8, var(x, ~));`
unfoldable pub signed_tree : Rules
unfolding bytes starts
signed_tree = last_rule (rule (named 0 1 (bytes "a")) (at 2 3) (last_branch (and_members (once (field true (below 0 refl) (at 4 8) (at 8 9) (counting 9 10 4) (at 10 11) (last_choice (item (between (sum (product (opposite (at 12 13) (number (counting 13 14 3))) no_factor) no_summand) (at 14 15) (sum (product (plain (number (counting 15 16 2))) no_factor) no_summand)))) (at 16 17))) (at 18 19) (last_member (once (binder true (below 1 refl) (at 20 24) (at 24 25) (counting 25 26 8) (at 26 27) (at 28 31) (at 31 32) (named 32 33 (bytes "x")) (at 33 34) (last_choice (item (everything (at 35 36)))) (at 36 37) (at 37 38)))))) (at 38 39))

pub signed_fields : tokens "a = sint(4, -3~2) & sint(8, var(x, ~));" ≡ spelling signed_tree 39
unfolding tokens spelling signed_tree
signed_fields = refl

-- conditions, cases and a default: `a = [x = 1 & y != 2 & z < 3: b; (x <= 1 | y > 2) | z >= 3: b; : eod;];`
unfoldable pub cases_tree : Rules
unfolding bytes starts
cases_tree = last_rule (rule (named 0 1 (bytes "a")) (at 2 3) (last_branch (last_member (once (switch (below 0 refl) (at 4 5) (case_cases (all_of (compare (sum (product (plain (variable (named 5 6 (bytes "x")))) no_factor) no_summand) equal (at 7 8) (sum (product (plain (number (counting 9 10 1))) no_factor) no_summand)) (at 11 12) (and_conjuncts (compare (sum (product (plain (variable (named 13 14 (bytes "y")))) no_factor) no_summand) unequal (at 15 17) (sum (product (plain (number (counting 18 19 2))) no_factor) no_summand)) (at 20 21) (last_conjunct (compare (sum (product (plain (variable (named 22 23 (bytes "z")))) no_factor) no_summand) less (at 24 25) (sum (product (plain (number (counting 26 27 3))) no_factor) no_summand))))) (at 27 28) (last_branch (last_member (once (rule_use (named 29 30 (bytes "b")) refl)))) (at 30 31) (case_default (any_of (test_group (below 1 refl) (at 32 33) (any_of (compare (sum (product (plain (variable (named 33 34 (bytes "x")))) no_factor) no_summand) at_most_as (at 35 37) (sum (product (plain (number (counting 38 39 1))) no_factor) no_summand)) (at 40 41) (last_disjunct (compare (sum (product (plain (variable (named 42 43 (bytes "y")))) no_factor) no_summand) greater (at 44 45) (sum (product (plain (number (counting 46 47 2))) no_factor) no_summand)))) (at 47 48)) (at 49 50) (last_disjunct (compare (sum (product (plain (variable (named 51 52 (bytes "z")))) no_factor) no_summand) at_least_as (at 53 55) (sum (product (plain (number (counting 56 57 3))) no_factor) no_summand)))) (at 57 58) (last_branch (last_member (once (rule_use (named 59 60 (bytes "b")) refl)))) (at 60 61) (at 62 63) (last_branch (last_member (once (eod (at 64 67))))) (at 67 68))) (at 68 69))))) (at 69 70))

pub cases : tokens "a = [x = 1 & y != 2 & z < 3: b; (x <= 1 | y > 2) | z >= 3: b; : eod;];" ≡ spelling cases_tree 70
unfolding tokens spelling cases_tree
cases = refl

-- one case: `a = [x = 1: b;];`
unfoldable pub one_case_tree : Rules
unfolding bytes starts
one_case_tree = last_rule (rule (named 0 1 (bytes "a")) (at 2 3) (last_branch (last_member (once (switch (below 0 refl) (at 4 5) (last_case (one_test (compare (sum (product (plain (variable (named 5 6 (bytes "x")))) no_factor) no_summand) equal (at 7 8) (sum (product (plain (number (counting 9 10 1))) no_factor) no_summand))) (at 10 11) (last_branch (last_member (once (rule_use (named 12 13 (bytes "b")) refl)))) (at 13 14)) (at 14 15))))) (at 15 16))

pub one_case : tokens "a = [x = 1: b;];" ≡ spelling one_case_tree 16
unfolding tokens spelling one_case_tree
one_case = refl

-- `uint` sixteen deep is a name: `a = ((((((((((((((((uint))))))))))))))));`
unfoldable pub deep_tree : Rules
unfolding bytes starts
deep_tree = last_rule (rule (named 0 1 (bytes "a")) (at 2 3) (last_branch (last_member (once (group (below 0 refl) (at 4 5) (last_branch (last_member (once (group (below 1 refl) (at 5 6) (last_branch (last_member (once (group (below 2 refl) (at 6 7) (last_branch (last_member (once (group (below 3 refl) (at 7 8) (last_branch (last_member (once (group (below 4 refl) (at 8 9) (last_branch (last_member (once (group (below 5 refl) (at 9 10) (last_branch (last_member (once (group (below 6 refl) (at 10 11) (last_branch (last_member (once (group (below 7 refl) (at 11 12) (last_branch (last_member (once (group (below 8 refl) (at 12 13) (last_branch (last_member (once (group (below 9 refl) (at 13 14) (last_branch (last_member (once (group (below 10 refl) (at 14 15) (last_branch (last_member (once (group (below 11 refl) (at 15 16) (last_branch (last_member (once (group (below 12 refl) (at 16 17) (last_branch (last_member (once (group (below 13 refl) (at 17 18) (last_branch (last_member (once (group (below 14 refl) (at 18 19) (last_branch (last_member (once (group (below 15 refl) (at 19 20) (last_branch (last_member (once (rule_use (named 20 24 (bytes "uint")) refl)))) (at 24 25))))) (at 25 26))))) (at 26 27))))) (at 27 28))))) (at 28 29))))) (at 29 30))))) (at 30 31))))) (at 31 32))))) (at 32 33))))) (at 33 34))))) (at 34 35))))) (at 35 36))))) (at 36 37))))) (at 37 38))))) (at 38 39))))) (at 39 40))))) (at 40 41))

pub deep : tokens "a = ((((((((((((((((uint))))))))))))))));" ≡ spelling deep_tree 41
unfolding tokens spelling deep_tree
deep = refl
