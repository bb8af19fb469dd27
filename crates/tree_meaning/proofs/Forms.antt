-- A tree for each form: totals and constructs.
-- Assumes nothing.
use mathlib.Core.Path.{◌≡◌, refl}
use mathlib.Core.Bool.{true, false}
use mathlib.Core.List.{[], ◌∷◌}
use mathlib.Core.Option.{none, some}
use lib.Dec.{lit<}
use lib.IntN.{pos}
use Rattle.basis.specs.Counts.{none as no-count, from as count_from, within}
use Rattle.text_header.specs.Spans.{starts}
use Rattle.tree.specs.Tree.{number, variable, plain, opposite, no_factor, times, product, no_summand, plus, minus, sum, everything, only, between, from, up_to_bound, item, item_but_item, item_but_set, last_choice, or_choices, exactly, at_least_count, at_most, span, equal, unequal, less, at_most_as, greater, at_least_as, compare, test_group, one_test, all_of, any_of, last_conjunct, and_conjuncts, last_disjunct, or_disjuncts, optional, any_number, one_or_more, counted, literal, range, field, binder, rule_use, eod, group, switch, case_default, case_cases, once, repeated, last_member, and_members, last_branch, or_branches, rule, Rules, last_rule, and_rules}
use Rattle.tree_meaning.proofs.Building.{bytes, at, over, name, num, quote}
use Rattle.tree_meaning.proofs.Computing.{tokens, written, judged, judgement, one_of, in_order, repeats, chooses, opens, takes, ends, see, seen, placed, marked, admitted, turns}
use lib.ListN.{replicate}
use Rattle.tree_meaning.specs.Grammar.{tree_grammar}

-- `a = uint(8, ~2 | 4 ! 4 | 5~9 ! (6 | 8~) | 11~);`: each item, `!` before an item and before a set, `|`
unfoldable pub sets : Rules
sets = last_rule (rule (name 0 "a") (at 2) (last_branch (last_member (once (field false (lit< tt) (over 4 8) (at 8) (num 9 10 8) (at 10) (or_choices (item (up_to_bound (at 12) (sum (product (plain (number (num 13 14 2))) no_factor) no_summand))) (at 15) (or_choices (item_but_item (only (sum (product (plain (number (num 17 18 4))) no_factor) no_summand)) (at 19) (only (sum (product (plain (number (num 21 22 4))) no_factor) no_summand))) (at 23) (or_choices (item_but_set (lit< tt) (between (sum (product (plain (number (num 25 26 5))) no_factor) no_summand) (at 26) (sum (product (plain (number (num 27 28 9))) no_factor) no_summand)) (at 29) (at 31) (or_choices (item (only (sum (product (plain (number (num 32 33 6))) no_factor) no_summand))) (at 34) (last_choice (item (from (sum (product (plain (number (num 36 37 8))) no_factor) no_summand) (at 37))))) (at 38)) (at 40) (last_choice (item (from (sum (product (plain (number (num 42 44 11))) no_factor) no_summand) (at 44))))))) (at 45))))) (at 46))

sets_read : tokens "a = uint(8, ~2 | 4 ! 4 | 5~9 ! (6 | 8~) | 11~);" ≡ written sets 47
unfolding tokens written sets
sets_read = refl

sets_judged : judgement sets ≡ judged 1 1 0 18 none none none
unfolding judgement sets
sets_judged = refl

sets_admits : admitted sets [] 8 (0 ∷ 1 ∷ 2 ∷ 3 ∷ 4 ∷ 5 ∷ 6 ∷ 7 ∷ 8 ∷ 9 ∷ 10 ∷ 11 ∷ []) ≡ true ∷ true ∷ true ∷ false ∷ false ∷ true ∷ false ∷ true ∷ false ∷ false ∷ false ∷ true ∷ []
unfolding admitted sets
sets_admits = refl

-- `a = uint(3, ~ ! 1~2);`
unfoldable pub open_set : Rules
open_set = last_rule (rule (name 0 "a") (at 2) (last_branch (last_member (once (field false (lit< tt) (over 4 8) (at 8) (num 9 10 3) (at 10) (last_choice (item_but_item (everything (at 12)) (at 14) (between (sum (product (plain (number (num 16 17 1))) no_factor) no_summand) (at 17) (sum (product (plain (number (num 18 19 2))) no_factor) no_summand)))) (at 19))))) (at 20))

open_set_read : tokens "a = uint(3, ~ ! 1~2);" ≡ written open_set 21
unfolding tokens written open_set
open_set_read = refl

open_set_admits : admitted open_set [] 3 (0 ∷ 1 ∷ 2 ∷ 3 ∷ []) ≡ true ∷ false ∷ false ∷ true ∷ []
unfolding admitted open_set
open_set_admits = refl

-- `a = uint(8, 10 - 3 - 2 | 2 + 3 * 4 | 1 - -1 | -2 * -3 * 4 | 0x10);`: from the left: 5, 14, 2, 24, 16; and hexadecimal
unfoldable pub sums : Rules
sums = last_rule (rule (name 0 "a") (at 2) (last_branch (last_member (once (field false (lit< tt) (over 4 8) (at 8) (num 9 10 8) (at 10) (or_choices (item (only (sum (product (plain (number (num 12 14 10))) no_factor) (minus (at 15) (product (plain (number (num 17 18 3))) no_factor) (minus (at 19) (product (plain (number (num 21 22 2))) no_factor) no_summand))))) (at 23) (or_choices (item (only (sum (product (plain (number (num 25 26 2))) no_factor) (plus (at 27) (product (plain (number (num 29 30 3))) (times (at 31) (plain (number (num 33 34 4))) no_factor)) no_summand)))) (at 35) (or_choices (item (only (sum (product (plain (number (num 37 38 1))) no_factor) (minus (at 39) (product (opposite (at 41) (number (num 42 43 1))) no_factor) no_summand)))) (at 44) (or_choices (item (only (sum (product (opposite (at 46) (number (num 47 48 2))) (times (at 49) (opposite (at 51) (number (num 52 53 3))) (times (at 54) (plain (number (num 56 57 4))) no_factor))) no_summand))) (at 58) (last_choice (item (only (sum (product (plain (number (num 60 64 16))) no_factor) no_summand)))))))) (at 64))))) (at 65))

sums_read : tokens "a = uint(8, 10 - 3 - 2 | 2 + 3 * 4 | 1 - -1 | -2 * -3 * 4 | 0x10);" ≡ written sums 66
unfolding tokens written sums
sums_read = refl

sums_judged : judgement sums ≡ judged 1 1 0 26 none none none
unfolding judgement sums
sums_judged = refl

sums_admits : admitted sums [] 8 (2 ∷ 5 ∷ 9 ∷ 14 ∷ 16 ∷ 20 ∷ 24 ∷ []) ≡ true ∷ true ∷ false ∷ true ∷ true ∷ false ∷ true ∷ []
unfolding admitted sums
sums_admits = refl

-- `a = uint(8, 3 - 5 | 255~300);`: values below 0 or above the width drop out
unfoldable pub below : Rules
below = last_rule (rule (name 0 "a") (at 2) (last_branch (last_member (once (field false (lit< tt) (over 4 8) (at 8) (num 9 10 8) (at 10) (or_choices (item (only (sum (product (plain (number (num 12 13 3))) no_factor) (minus (at 14) (product (plain (number (num 16 17 5))) no_factor) no_summand)))) (at 18) (last_choice (item (between (sum (product (plain (number (num 20 23 255))) no_factor) no_summand) (at 23) (sum (product (plain (number (num 24 27 300))) no_factor) no_summand))))) (at 27))))) (at 28))

below_read : tokens "a = uint(8, 3 - 5 | 255~300);" ≡ written below 29
unfolding tokens written below
below_read = refl

below_admits : admitted below [] 8 (0 ∷ 2 ∷ 254 ∷ 255 ∷ []) ≡ false ∷ false ∷ false ∷ true ∷ []
unfolding admitted below
below_admits = refl

-- `a = uint(8, var(n, ~)) & [n = 9: "a"; n > 7: "b"; n >= 6: "c"; n < 1: "d"; n <= 1: "e"; n != 3 & n != 4 & n != 2 & n != 1: "f"; (n = 2 | n = 3) & n < 3: "g"; n = 7 | n = 8 | n = 4: "h"; : "i";];`: each comparison, `&`, `|`, parentheses; the first true case, else the default
unfoldable pub conditions : Rules
conditions = last_rule (rule (name 0 "a") (at 2) (last_branch (and_members (once (binder false (lit< tt) (over 4 8) (at 8) (num 9 10 8) (at 10) (over 12 15) (at 15) (name 16 "n") (at 17) (last_choice (item (everything (at 19)))) (at 20) (at 21))) (at 23) (last_member (once (switch (lit< tt) (at 25) (case_cases (one_test (compare (sum (product (plain (variable (name 26 "n"))) no_factor) no_summand) equal (at 28) (sum (product (plain (number (num 30 31 9))) no_factor) no_summand))) (at 31) (last_branch (last_member (once (literal (quote 33 36 "a"))))) (at 36) (case_cases (one_test (compare (sum (product (plain (variable (name 38 "n"))) no_factor) no_summand) greater (at 40) (sum (product (plain (number (num 42 43 7))) no_factor) no_summand))) (at 43) (last_branch (last_member (once (literal (quote 45 48 "b"))))) (at 48) (case_cases (one_test (compare (sum (product (plain (variable (name 50 "n"))) no_factor) no_summand) at_least_as (over 52 54) (sum (product (plain (number (num 55 56 6))) no_factor) no_summand))) (at 56) (last_branch (last_member (once (literal (quote 58 61 "c"))))) (at 61) (case_cases (one_test (compare (sum (product (plain (variable (name 63 "n"))) no_factor) no_summand) less (at 65) (sum (product (plain (number (num 67 68 1))) no_factor) no_summand))) (at 68) (last_branch (last_member (once (literal (quote 70 73 "d"))))) (at 73) (case_cases (one_test (compare (sum (product (plain (variable (name 75 "n"))) no_factor) no_summand) at_most_as (over 77 79) (sum (product (plain (number (num 80 81 1))) no_factor) no_summand))) (at 81) (last_branch (last_member (once (literal (quote 83 86 "e"))))) (at 86) (case_cases (all_of (compare (sum (product (plain (variable (name 88 "n"))) no_factor) no_summand) unequal (over 90 92) (sum (product (plain (number (num 93 94 3))) no_factor) no_summand)) (at 95) (and_conjuncts (compare (sum (product (plain (variable (name 97 "n"))) no_factor) no_summand) unequal (over 99 101) (sum (product (plain (number (num 102 103 4))) no_factor) no_summand)) (at 104) (and_conjuncts (compare (sum (product (plain (variable (name 106 "n"))) no_factor) no_summand) unequal (over 108 110) (sum (product (plain (number (num 111 112 2))) no_factor) no_summand)) (at 113) (last_conjunct (compare (sum (product (plain (variable (name 115 "n"))) no_factor) no_summand) unequal (over 117 119) (sum (product (plain (number (num 120 121 1))) no_factor) no_summand)))))) (at 121) (last_branch (last_member (once (literal (quote 123 126 "f"))))) (at 126) (case_cases (all_of (test_group (lit< tt) (at 128) (any_of (compare (sum (product (plain (variable (name 129 "n"))) no_factor) no_summand) equal (at 131) (sum (product (plain (number (num 133 134 2))) no_factor) no_summand)) (at 135) (last_disjunct (compare (sum (product (plain (variable (name 137 "n"))) no_factor) no_summand) equal (at 139) (sum (product (plain (number (num 141 142 3))) no_factor) no_summand)))) (at 142)) (at 144) (last_conjunct (compare (sum (product (plain (variable (name 146 "n"))) no_factor) no_summand) less (at 148) (sum (product (plain (number (num 150 151 3))) no_factor) no_summand)))) (at 151) (last_branch (last_member (once (literal (quote 153 156 "g"))))) (at 156) (case_default (any_of (compare (sum (product (plain (variable (name 158 "n"))) no_factor) no_summand) equal (at 160) (sum (product (plain (number (num 162 163 7))) no_factor) no_summand)) (at 164) (or_disjuncts (compare (sum (product (plain (variable (name 166 "n"))) no_factor) no_summand) equal (at 168) (sum (product (plain (number (num 170 171 8))) no_factor) no_summand)) (at 172) (last_disjunct (compare (sum (product (plain (variable (name 174 "n"))) no_factor) no_summand) equal (at 176) (sum (product (plain (number (num 178 179 4))) no_factor) no_summand))))) (at 179) (last_branch (last_member (once (literal (quote 181 184 "h"))))) (at 184) (at 186) (last_branch (last_member (once (literal (quote 188 191 "i"))))) (at 191))))))))) (at 192)))))) (at 193))

conditions_read : tokens "a = uint(8, var(n, ~)) & [n = 9: \"a\"; n > 7: \"b\"; n >= 6: \"c\"; n < 1: \"d\"; n <= 1: \"e\"; n != 3 & n != 4 & n != 2 & n != 1: \"f\"; (n = 2 | n = 3) & n < 3: \"g\"; n = 7 | n = 8 | n = 4: \"h\"; : \"i\";];" ≡ written conditions 194
unfolding tokens written conditions
conditions_read = refl

conditions_judged : judgement conditions ≡ judged 1 12 1 53 none none none
unfolding judgement conditions
conditions_judged = refl

conditions_at_0 : turns conditions (pos 0 ∷ []) 2 ≡ some 6
unfolding turns conditions
conditions_at_0 = refl

conditions_at_1 : turns conditions (pos 1 ∷ []) 2 ≡ some 7
unfolding turns conditions
conditions_at_1 = refl

conditions_at_2 : turns conditions (pos 2 ∷ []) 2 ≡ some 9
unfolding turns conditions
conditions_at_2 = refl

conditions_at_3 : turns conditions (pos 3 ∷ []) 2 ≡ some 11
unfolding turns conditions
conditions_at_3 = refl

conditions_at_4 : turns conditions (pos 4 ∷ []) 2 ≡ some 10
unfolding turns conditions
conditions_at_4 = refl

conditions_at_5 : turns conditions (pos 5 ∷ []) 2 ≡ some 8
unfolding turns conditions
conditions_at_5 = refl

conditions_at_6 : turns conditions (pos 6 ∷ []) 2 ≡ some 5
unfolding turns conditions
conditions_at_6 = refl

conditions_at_7 : turns conditions (pos 7 ∷ []) 2 ≡ some 5
unfolding turns conditions
conditions_at_7 = refl

conditions_at_8 : turns conditions (pos 8 ∷ []) 2 ≡ some 4
unfolding turns conditions
conditions_at_8 = refl

conditions_at_9 : turns conditions (pos 9 ∷ []) 2 ≡ some 3
unfolding turns conditions
conditions_at_9 = refl

-- `a = uint(8, var(n, ~)) & [n = 1: "a" & "b"; n = 2: "c"*; : "d";];`: cases of several constructs
unfoldable pub bodies : Rules
bodies = last_rule (rule (name 0 "a") (at 2) (last_branch (and_members (once (binder false (lit< tt) (over 4 8) (at 8) (num 9 10 8) (at 10) (over 12 15) (at 15) (name 16 "n") (at 17) (last_choice (item (everything (at 19)))) (at 20) (at 21))) (at 23) (last_member (once (switch (lit< tt) (at 25) (case_cases (one_test (compare (sum (product (plain (variable (name 26 "n"))) no_factor) no_summand) equal (at 28) (sum (product (plain (number (num 30 31 1))) no_factor) no_summand))) (at 31) (last_branch (and_members (once (literal (quote 33 36 "a"))) (at 37) (last_member (once (literal (quote 39 42 "b")))))) (at 42) (case_default (one_test (compare (sum (product (plain (variable (name 44 "n"))) no_factor) no_summand) equal (at 46) (sum (product (plain (number (num 48 49 2))) no_factor) no_summand))) (at 49) (last_branch (last_member (repeated (literal (quote 51 54 "c")) (any_number (at 54))))) (at 55) (at 57) (last_branch (last_member (once (literal (quote 59 62 "d"))))) (at 62))) (at 63)))))) (at 64))

bodies_read : tokens "a = uint(8, var(n, ~)) & [n = 1: \"a\" & \"b\"; n = 2: \"c\"*; : \"d\";];" ≡ written bodies 65
unfolding tokens written bodies
bodies_read = refl

bodies_judged : judgement bodies ≡ judged 1 9 1 7 none none none
unfolding judgement bodies
bodies_judged = refl

bodies_seen : seen bodies (pos 2 ∷ []) 8 99 ≡ in_order (1 ∷ 2 ∷ []) ∷ takes 8 true true (pos 99 ∷ []) ∷ chooses (some 6) false (3 ∷ 6 ∷ 8 ∷ []) ∷ in_order (4 ∷ 5 ∷ []) ∷ takes 8 false false (pos 2 ∷ []) ∷ takes 8 false false (pos 2 ∷ []) ∷ repeats (count_from 0) (count_from 0) false 7 ∷ takes 8 true true (pos 2 ∷ []) ∷ takes 8 false false (pos 2 ∷ []) ∷ []
unfolding seen bodies
bodies_seen = refl

bodies_at_1 : turns bodies (pos 1 ∷ []) 2 ≡ some 3
unfolding turns bodies
bodies_at_1 = refl

bodies_at_2 : turns bodies (pos 2 ∷ []) 2 ≡ some 6
unfolding turns bodies
bodies_at_2 = refl

bodies_at_3 : turns bodies (pos 3 ∷ []) 2 ≡ some 8
unfolding turns bodies
bodies_at_3 = refl

-- `a = 'c'~'e';`: both ends are in it
unfoldable pub ranges : Rules
unfolding bytes
ranges = last_rule (rule (name 0 "a") (at 2) (last_branch (last_member (once (range (quote 4 7 "c") (at 7) (quote 8 11 "e") refl refl)))) (at 11))

ranges_read : tokens "a = 'c'~'e';" ≡ written ranges 12
unfolding tokens written ranges
ranges_read = refl

ranges_admits : admitted ranges [] 8 (98 ∷ 99 ∷ 100 ∷ 101 ∷ 102 ∷ []) ≡ false ∷ true ∷ true ∷ true ∷ false ∷ []
unfolding admitted ranges
ranges_admits = refl

-- `a = uint(8, var(n, ~)) & 'x'{3} & 'x'{3~} & 'x'{~3} & 'x'{2~3} & 'x'? & 'x'+ & 'x'{n~} & 'x'{~n - 4} & 'x'{n - 4~n};`: counts and what they allow where no values are known
unfoldable pub counts : Rules
counts = last_rule (rule (name 0 "a") (at 2) (last_branch (and_members (once (binder false (lit< tt) (over 4 8) (at 8) (num 9 10 8) (at 10) (over 12 15) (at 15) (name 16 "n") (at 17) (last_choice (item (everything (at 19)))) (at 20) (at 21))) (at 23) (and_members (repeated (literal (quote 25 28 "x")) (counted (at 28) (exactly (sum (product (plain (number (num 29 30 3))) no_factor) no_summand)) (at 30))) (at 32) (and_members (repeated (literal (quote 34 37 "x")) (counted (at 37) (at_least_count (sum (product (plain (number (num 38 39 3))) no_factor) no_summand) (at 39)) (at 40))) (at 42) (and_members (repeated (literal (quote 44 47 "x")) (counted (at 47) (at_most (at 48) (sum (product (plain (number (num 49 50 3))) no_factor) no_summand)) (at 50))) (at 52) (and_members (repeated (literal (quote 54 57 "x")) (counted (at 57) (span (sum (product (plain (number (num 58 59 2))) no_factor) no_summand) (at 59) (sum (product (plain (number (num 60 61 3))) no_factor) no_summand)) (at 61))) (at 63) (and_members (repeated (literal (quote 65 68 "x")) (optional (at 68))) (at 70) (and_members (repeated (literal (quote 72 75 "x")) (one_or_more (at 75))) (at 77) (and_members (repeated (literal (quote 79 82 "x")) (counted (at 82) (at_least_count (sum (product (plain (variable (name 83 "n"))) no_factor) no_summand) (at 84)) (at 85))) (at 87) (and_members (repeated (literal (quote 89 92 "x")) (counted (at 92) (at_most (at 93) (sum (product (plain (variable (name 94 "n"))) no_factor) (minus (at 96) (product (plain (number (num 98 99 4))) no_factor) no_summand))) (at 99))) (at 101) (last_member (repeated (literal (quote 103 106 "x")) (counted (at 106) (span (sum (product (plain (variable (name 107 "n"))) no_factor) (minus (at 109) (product (plain (number (num 111 112 4))) no_factor) no_summand)) (at 112) (sum (product (plain (variable (name 113 "n"))) no_factor) no_summand)) (at 114)))))))))))))) (at 115))

counts_read : tokens "a = uint(8, var(n, ~)) & 'x'{3} & 'x'{3~} & 'x'{~3} & 'x'{2~3} & 'x'? & 'x'+ & 'x'{n~} & 'x'{~n - 4} & 'x'{n - 4~n};" ≡ written counts 116
unfolding tokens written counts
counts_read = refl

counts_judged : judgement counts ≡ judged 1 20 1 20 none none none
unfolding judgement counts
counts_judged = refl

counts_seen : seen counts (pos 3 ∷ []) 8 120 ≡ in_order (1 ∷ 2 ∷ 4 ∷ 6 ∷ 8 ∷ 10 ∷ 12 ∷ 14 ∷ 16 ∷ 18 ∷ []) ∷ takes 8 true true (pos 120 ∷ []) ∷ repeats (within 3 0) (within 3 0) true 3 ∷ takes 8 true true (pos 3 ∷ []) ∷ repeats (count_from 3) (count_from 3) false 5 ∷ takes 8 true true (pos 3 ∷ []) ∷ repeats (within 0 3) (within 0 3) false 7 ∷ takes 8 true true (pos 3 ∷ []) ∷ repeats (within 2 1) (within 2 1) false 9 ∷ takes 8 true true (pos 3 ∷ []) ∷ repeats (within 0 1) (within 0 1) false 11 ∷ takes 8 true true (pos 3 ∷ []) ∷ repeats (count_from 1) (count_from 1) false 13 ∷ takes 8 true true (pos 3 ∷ []) ∷ repeats (count_from 3) (count_from 0) false 15 ∷ takes 8 true true (pos 3 ∷ []) ∷ repeats no-count (count_from 0) false 17 ∷ takes 8 true true (pos 3 ∷ []) ∷ repeats (within 0 3) (count_from 0) false 19 ∷ takes 8 true true (pos 3 ∷ []) ∷ []
unfolding seen counts
counts_seen = refl

-- `a = 'x'{3~3} & 'x'{5~3};`: `{3~3}` is not written `{n}`; `{5~3}` allows none
unfoldable pub fixed : Rules
fixed = last_rule (rule (name 0 "a") (at 2) (last_branch (and_members (repeated (literal (quote 4 7 "x")) (counted (at 7) (span (sum (product (plain (number (num 8 9 3))) no_factor) no_summand) (at 9) (sum (product (plain (number (num 10 11 3))) no_factor) no_summand)) (at 11))) (at 13) (last_member (repeated (literal (quote 15 18 "x")) (counted (at 18) (span (sum (product (plain (number (num 19 20 5))) no_factor) no_summand) (at 20) (sum (product (plain (number (num 21 22 3))) no_factor) no_summand)) (at 22)))))) (at 23))

fixed_read : tokens "a = 'x'{3~3} & 'x'{5~3};" ≡ written fixed 24
unfolding tokens written fixed
fixed_read = refl

fixed_seen : seen fixed [] 8 120 ≡ in_order (1 ∷ 3 ∷ []) ∷ repeats (within 3 0) (within 3 0) false 2 ∷ takes 8 true true [] ∷ repeats no-count no-count false 4 ∷ takes 8 true true [] ∷ []
unfolding seen fixed
fixed_seen = refl

-- `a = uint(8, var(n, ~)) & uint(8, n | 3) & uint(8, 3);`: one variable anywhere makes a set `~` where no values are known
unfoldable pub static : Rules
static = last_rule (rule (name 0 "a") (at 2) (last_branch (and_members (once (binder false (lit< tt) (over 4 8) (at 8) (num 9 10 8) (at 10) (over 12 15) (at 15) (name 16 "n") (at 17) (last_choice (item (everything (at 19)))) (at 20) (at 21))) (at 23) (and_members (once (field false (lit< tt) (over 25 29) (at 29) (num 30 31 8) (at 31) (or_choices (item (only (sum (product (plain (variable (name 33 "n"))) no_factor) no_summand))) (at 35) (last_choice (item (only (sum (product (plain (number (num 37 38 3))) no_factor) no_summand))))) (at 38))) (at 40) (last_member (once (field false (lit< tt) (over 42 46) (at 46) (num 47 48 8) (at 48) (last_choice (item (only (sum (product (plain (number (num 50 51 3))) no_factor) no_summand)))) (at 51))))))) (at 52))

static_read : tokens "a = uint(8, var(n, ~)) & uint(8, n | 3) & uint(8, 3);" ≡ written static 53
unfolding tokens written static
static_read = refl

static_seen : seen static (pos 7 ∷ []) 8 5 ≡ in_order (1 ∷ 2 ∷ 3 ∷ []) ∷ takes 8 true true (pos 5 ∷ []) ∷ takes 8 false true (pos 7 ∷ []) ∷ takes 8 false false (pos 7 ∷ []) ∷ []
unfolding seen static
static_seen = refl

-- `a = "x" & ("y" & "z" | b) | (eod | 'c'~'e')*; b = (("p"));`: a group ends a chain, and is no construct
unfoldable pub chains : Rules
unfolding bytes starts
chains = and_rules (rule (name 0 "a") (at 2) (or_branches (and_members (once (literal (quote 4 7 "x"))) (at 8) (last_member (once (group (lit< tt) (at 10) (or_branches (and_members (once (literal (quote 11 14 "y"))) (at 15) (last_member (once (literal (quote 17 20 "z"))))) (at 21) (last_branch (last_member (once (rule_use (name 23 "b") refl))))) (at 24))))) (at 26) (last_branch (last_member (repeated (group (lit< tt) (at 28) (or_branches (last_member (once (eod (over 29 32)))) (at 33) (last_branch (last_member (once (range (quote 35 38 "c") (at 38) (quote 39 42 "e") refl refl))))) (at 42)) (any_number (at 43)))))) (at 44)) (last_rule (rule (name 46 "b") (at 48) (last_branch (last_member (once (group (lit< tt) (at 50) (last_branch (last_member (once (group (lit< tt) (at 51) (last_branch (last_member (once (literal (quote 52 55 "p"))))) (at 55))))) (at 56))))) (at 57)))

chains_read : tokens "a = \"x\" & (\"y\" & \"z\" | b) | (eod | 'c'~'e')*; b = ((\"p\"));" ≡ written chains 58
unfolding tokens written chains
chains_read = refl

chains_judged : judgement chains ≡ judged 2 13 0 0 none none none
unfolding judgement chains
chains_judged = refl

chains_seen : seen chains [] 8 100 ≡ one_of (1 ∷ 8 ∷ []) ∷ in_order (2 ∷ 3 ∷ []) ∷ takes 8 false false [] ∷ one_of (4 ∷ 7 ∷ []) ∷ in_order (5 ∷ 6 ∷ []) ∷ takes 8 false false [] ∷ takes 8 false false [] ∷ opens 12 ∷ repeats (count_from 0) (count_from 0) false 9 ∷ one_of (10 ∷ 11 ∷ []) ∷ ends ∷ takes 8 true true [] ∷ takes 8 false false [] ∷ []
unfolding seen chains
chains_seen = refl

-- "its first byte, parentheses around the whole of it left out"
chains_places : placed chains ≡ 4 ∷ 4 ∷ 4 ∷ 11 ∷ 11 ∷ 11 ∷ 17 ∷ 23 ∷ 28 ∷ 29 ∷ 29 ∷ 35 ∷ 52 ∷ []
unfolding placed chains
chains_places = refl

-- `a = ("x") & "y" | ("z" & "w"){2};`: the parenthesis is the first byte of a chain and of a repetition that begin with it
unfoldable pub nested : Rules
nested = last_rule (rule (name 0 "a") (at 2) (or_branches (and_members (once (group (lit< tt) (at 4) (last_branch (last_member (once (literal (quote 5 8 "x"))))) (at 8))) (at 10) (last_member (once (literal (quote 12 15 "y"))))) (at 16) (last_branch (last_member (repeated (group (lit< tt) (at 18) (last_branch (and_members (once (literal (quote 19 22 "z"))) (at 23) (last_member (once (literal (quote 25 28 "w")))))) (at 28)) (counted (at 29) (exactly (sum (product (plain (number (num 30 31 2))) no_factor) no_summand)) (at 31)))))) (at 32))

nested_read : tokens "a = (\"x\") & \"y\" | (\"z\" & \"w\"){2};" ≡ written nested 33
unfolding tokens written nested
nested_read = refl

nested_places : placed nested ≡ 4 ∷ 4 ∷ 5 ∷ 12 ∷ 18 ∷ 19 ∷ 19 ∷ 25 ∷ []
unfolding placed nested
nested_places = refl

nested_marks : marked nested ≡ 0 ∷ 0 ∷ 0 ∷ 0 ∷ 29 ∷ 0 ∷ 0 ∷ 0 ∷ []
unfolding marked nested
nested_marks = refl

-- `a = b & uint(8, var(n, ~)) & uint(8, n); b = uint(8, var(n, ~)) & uint(8, var(m, ~)) & "x"{m} & uint(8, n);`: variables in text order of their binders, each rule its own
unfoldable pub scopes : Rules
unfolding bytes starts
scopes = and_rules (rule (name 0 "a") (at 2) (last_branch (and_members (once (rule_use (name 4 "b") refl)) (at 6) (and_members (once (binder false (lit< tt) (over 8 12) (at 12) (num 13 14 8) (at 14) (over 16 19) (at 19) (name 20 "n") (at 21) (last_choice (item (everything (at 23)))) (at 24) (at 25))) (at 27) (last_member (once (field false (lit< tt) (over 29 33) (at 33) (num 34 35 8) (at 35) (last_choice (item (only (sum (product (plain (variable (name 37 "n"))) no_factor) no_summand)))) (at 38))))))) (at 39)) (last_rule (rule (name 41 "b") (at 43) (last_branch (and_members (once (binder false (lit< tt) (over 45 49) (at 49) (num 50 51 8) (at 51) (over 53 56) (at 56) (name 57 "n") (at 58) (last_choice (item (everything (at 60)))) (at 61) (at 62))) (at 64) (and_members (once (binder false (lit< tt) (over 66 70) (at 70) (num 71 72 8) (at 72) (over 74 77) (at 77) (name 78 "m") (at 79) (last_choice (item (everything (at 81)))) (at 82) (at 83))) (at 85) (and_members (repeated (literal (quote 87 90 "x")) (counted (at 90) (exactly (sum (product (plain (variable (name 91 "m"))) no_factor) no_summand)) (at 92))) (at 94) (last_member (once (field false (lit< tt) (over 96 100) (at 100) (num 101 102 8) (at 102) (last_choice (item (only (sum (product (plain (variable (name 104 "n"))) no_factor) no_summand)))) (at 105)))))))) (at 106)))

scopes_read : tokens "a = b & uint(8, var(n, ~)) & uint(8, n); b = uint(8, var(n, ~)) & uint(8, var(m, ~)) & \"x\"{m} & uint(8, n);" ≡ written scopes 107
unfolding tokens written scopes
scopes_read = refl

scopes_seen : seen scopes (pos 7 ∷ pos 8 ∷ pos 9 ∷ []) 8 8 ≡ in_order (1 ∷ 2 ∷ 3 ∷ []) ∷ opens 4 ∷ takes 8 true true (pos 8 ∷ pos 8 ∷ pos 9 ∷ []) ∷ takes 8 false true (pos 7 ∷ pos 8 ∷ pos 9 ∷ []) ∷ in_order (5 ∷ 6 ∷ 7 ∷ 9 ∷ []) ∷ takes 8 true true (pos 7 ∷ pos 8 ∷ pos 9 ∷ []) ∷ takes 8 true true (pos 7 ∷ pos 8 ∷ pos 8 ∷ []) ∷ repeats (within 9 0) (count_from 0) true 8 ∷ takes 8 false false (pos 7 ∷ pos 8 ∷ pos 9 ∷ []) ∷ takes 8 true true (pos 7 ∷ pos 8 ∷ pos 9 ∷ []) ∷ []
unfolding seen scopes
scopes_seen = refl

-- ---- a grammar's opening: number 256 is a use of construct 0, and beyond the last construct nothing derives

straight : (tree_grammar chains).start ≡ 256
unfolding tree_grammar
straight = refl

opened : see [] [] ((tree_grammar chains).node 256) ≡ opens 0
unfolding tree_grammar
opened = refl

last : see [] [] ((tree_grammar ranges).node 1) ≡ one_of []
unfolding tree_grammar seen ranges
last = refl

-- "the rest 0"
at_first : (tree_grammar chains).values ≡ replicate 64 (pos 0)
unfolding tree_grammar
at_first = refl
