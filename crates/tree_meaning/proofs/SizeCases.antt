-- Numbers, widths and calculations within their limits and outside (8): each with its place.
-- Assumes nothing.
use mathlib.Core.Bool.{true, false}
use mathlib.Core.Path.{◌≡◌, refl}
use mathlib.Core.Option.{none, some}
use lib.Dec.{lit<}
use Rattle.tree.specs.Tree.{number, variable, plain, opposite, no_factor, times, product, no_summand, plus, minus, sum, everything, only, item, item_but_set, last_choice, or_choices, exactly, span, equal, less, compare, all_of, last_conjunct, counted, literal, field, binder, switch, last_case, once, repeated, last_member, and_members, last_branch, rule, Rules, last_rule, and_rules}
use Rattle.tree_meaning.proofs.Building.{at, over, name, num, quote}
use Rattle.tree_meaning.proofs.Computing.{tokens, written, judgement, place_eight}

-- `a = uint(0, ~);`: "width a number from 1"
unfoldable pub width_0 : Rules
width_0 = last_rule (rule (name 0 "a") (at 2) (last_branch (last_member (once (field false (lit< tt) (over 4 8) (at 8) (num 9 10 0) (at 10) (last_choice (item (everything (at 12)))) (at 13))))) (at 14))

width_0_read : tokens "a = uint(0, ~);" ≡ written width_0 15
unfolding tokens written width_0
width_0_read = refl

width_0_eight : place_eight (judgement width_0) ≡ some 9
unfolding judgement width_0
width_0_eight = refl

-- `a = uint(1, ~) & uint(64, ~) & uint(65, ~);`: "Widths go to 64" (Req 10)
unfoldable pub width_65 : Rules
width_65 = last_rule (rule (name 0 "a") (at 2) (last_branch (and_members (once (field false (lit< tt) (over 4 8) (at 8) (num 9 10 1) (at 10) (last_choice (item (everything (at 12)))) (at 13))) (at 15) (and_members (once (field false (lit< tt) (over 17 21) (at 21) (num 22 24 64) (at 24) (last_choice (item (everything (at 26)))) (at 27))) (at 29) (last_member (once (field false (lit< tt) (over 31 35) (at 35) (num 36 38 65) (at 38) (last_choice (item (everything (at 40)))) (at 41))))))) (at 42))

width_65_read : tokens "a = uint(1, ~) & uint(64, ~) & uint(65, ~);" ≡ written width_65 43
unfolding tokens written width_65
width_65_read = refl

width_65_eight : place_eight (judgement width_65) ≡ some 36
unfolding judgement width_65
width_65_eight = refl

-- `a = sint(1, ~) & sint(64, ~) & sint(65, ~);`: of a signed field too
unfoldable pub signed_65 : Rules
signed_65 = last_rule (rule (name 0 "a") (at 2) (last_branch (and_members (once (field true (lit< tt) (over 4 8) (at 8) (num 9 10 1) (at 10) (last_choice (item (everything (at 12)))) (at 13))) (at 15) (and_members (once (field true (lit< tt) (over 17 21) (at 21) (num 22 24 64) (at 24) (last_choice (item (everything (at 26)))) (at 27))) (at 29) (last_member (once (field true (lit< tt) (over 31 35) (at 35) (num 36 38 65) (at 38) (last_choice (item (everything (at 40)))) (at 41))))))) (at 42))

signed_65_read : tokens "a = sint(1, ~) & sint(64, ~) & sint(65, ~);" ≡ written signed_65 43
unfolding tokens written signed_65
signed_65_read = refl

signed_65_eight : place_eight (judgement signed_65) ≡ some 36
unfolding judgement signed_65
signed_65_eight = refl

-- `a = uint(62, var(x, ~)) & uint(63, ~) & uint(63, var(y, ~));`: "A binder wider than 62 bits is refusal 8": at its width
unfoldable pub bound_63 : Rules
bound_63 = last_rule (rule (name 0 "a") (at 2) (last_branch (and_members (once (binder false (lit< tt) (over 4 8) (at 8) (num 9 11 62) (at 11) (over 13 16) (at 16) (name 17 "x") (at 18) (last_choice (item (everything (at 20)))) (at 21) (at 22))) (at 24) (and_members (once (field false (lit< tt) (over 26 30) (at 30) (num 31 33 63) (at 33) (last_choice (item (everything (at 35)))) (at 36))) (at 38) (last_member (once (binder false (lit< tt) (over 40 44) (at 44) (num 45 47 63) (at 47) (over 49 52) (at 52) (name 53 "y") (at 54) (last_choice (item (everything (at 56)))) (at 57) (at 58))))))) (at 59))

bound_63_read : tokens "a = uint(62, var(x, ~)) & uint(63, ~) & uint(63, var(y, ~));" ≡ written bound_63 60
unfolding tokens written bound_63
bound_63_read = refl

bound_63_eight : place_eight (judgement bound_63) ≡ some 45
unfolding judgement bound_63
bound_63_eight = refl

-- `a = sint(62, var(x, ~)) & sint(63, ~) & sint(63, var(y, ~));`: of a signed one too
unfoldable pub signed_bound_63 : Rules
signed_bound_63 = last_rule (rule (name 0 "a") (at 2) (last_branch (and_members (once (binder true (lit< tt) (over 4 8) (at 8) (num 9 11 62) (at 11) (over 13 16) (at 16) (name 17 "x") (at 18) (last_choice (item (everything (at 20)))) (at 21) (at 22))) (at 24) (and_members (once (field true (lit< tt) (over 26 30) (at 30) (num 31 33 63) (at 33) (last_choice (item (everything (at 35)))) (at 36))) (at 38) (last_member (once (binder true (lit< tt) (over 40 44) (at 44) (num 45 47 63) (at 47) (over 49 52) (at 52) (name 53 "y") (at 54) (last_choice (item (everything (at 56)))) (at 57) (at 58))))))) (at 59))

signed_bound_63_read : tokens "a = sint(62, var(x, ~)) & sint(63, ~) & sint(63, var(y, ~));" ≡ written signed_bound_63 60
unfolding tokens written signed_bound_63
signed_bound_63_read = refl

signed_bound_63_eight : place_eight (judgement signed_bound_63) ≡ some 45
unfolding judgement signed_bound_63
signed_bound_63_eight = refl

-- `a = uint(64, 4611686018427387904 | 4611686018427387905);`: "written numbers to 2^62"
unfoldable pub numbers : Rules
numbers = last_rule (rule (name 0 "a") (at 2) (last_branch (last_member (once (field false (lit< tt) (over 4 8) (at 8) (num 9 11 64) (at 11) (or_choices (item (only (sum (product (plain (number (num 13 32 4611686018427387904))) no_factor) no_summand))) (at 33) (last_choice (item (only (sum (product (plain (number (num 35 54 4611686018427387905))) no_factor) no_summand))))) (at 54))))) (at 55))

numbers_read : tokens "a = uint(64, 4611686018427387904 | 4611686018427387905);" ≡ written numbers 56
unfolding tokens written numbers
numbers_read = refl

numbers_eight : place_eight (judgement numbers) ≡ some 35
unfolding judgement numbers
numbers_eight = refl

-- `a = "x" & uint(8, 5 + 4611686018427387905);`: a number past it is part of a calculation that passes it: at the calculation's first byte
unfoldable pub past_number : Rules
past_number = last_rule (rule (name 0 "a") (at 2) (last_branch (and_members (once (literal (quote 4 7 "x"))) (at 8) (last_member (once (field false (lit< tt) (over 10 14) (at 14) (num 15 16 8) (at 16) (last_choice (item (only (sum (product (plain (number (num 18 19 5))) no_factor) (plus (at 20) (product (plain (number (num 22 41 4611686018427387905))) no_factor) no_summand))))) (at 41)))))) (at 42))

past_number_read : tokens "a = \"x\" & uint(8, 5 + 4611686018427387905);" ≡ written past_number 43
unfolding tokens written past_number
past_number_read = refl

past_number_eight : place_eight (judgement past_number) ≡ some 18
unfolding judgement past_number
past_number_eight = refl

-- `a = "x" & uint(8, -4611686018427387905);`: at the minus
unfoldable pub past_below : Rules
past_below = last_rule (rule (name 0 "a") (at 2) (last_branch (and_members (once (literal (quote 4 7 "x"))) (at 8) (last_member (once (field false (lit< tt) (over 10 14) (at 14) (num 15 16 8) (at 16) (last_choice (item (only (sum (product (opposite (at 18) (number (num 19 38 4611686018427387905))) no_factor) no_summand)))) (at 38)))))) (at 39))

past_below_read : tokens "a = \"x\" & uint(8, -4611686018427387905);" ≡ written past_below 40
unfolding tokens written past_below
past_below_read = refl

past_below_eight : place_eight (judgement past_below) ≡ some 18
unfolding judgement past_below
past_below_eight = refl

-- `a = "x" & uint(8, 5 + 99999999999999999999);`: however long the number is
unfoldable pub at_calculation : Rules
at_calculation = last_rule (rule (name 0 "a") (at 2) (last_branch (and_members (once (literal (quote 4 7 "x"))) (at 8) (last_member (once (field false (lit< tt) (over 10 14) (at 14) (num 15 16 8) (at 16) (last_choice (item (only (sum (product (plain (number (num 18 19 5))) no_factor) (plus (at 20) (product (plain (number (num 22 42 99999999999999999999))) no_factor) no_summand))))) (at 42)))))) (at 43))

at_calculation_read : tokens "a = \"x\" & uint(8, 5 + 99999999999999999999);" ≡ written at_calculation 44
unfolding tokens written at_calculation
at_calculation_read = refl

at_calculation_eight : place_eight (judgement at_calculation) ≡ some 18
unfolding judgement at_calculation
at_calculation_eight = refl

-- `a = uint(31, var(y, ~)) & "x"{y * y + 4294967295};`: (2^31 - 1)^2 + 2^32 - 1 is 2^62: no more than that
unfoldable pub no_more : Rules
no_more = last_rule (rule (name 0 "a") (at 2) (last_branch (and_members (once (binder false (lit< tt) (over 4 8) (at 8) (num 9 11 31) (at 11) (over 13 16) (at 16) (name 17 "y") (at 18) (last_choice (item (everything (at 20)))) (at 21) (at 22))) (at 24) (last_member (repeated (literal (quote 26 29 "x")) (counted (at 29) (exactly (sum (product (plain (variable (name 30 "y"))) (times (at 32) (plain (variable (name 34 "y"))) no_factor)) (plus (at 36) (product (plain (number (num 38 48 4294967295))) no_factor) no_summand))) (at 48)))))) (at 49))

no_more_read : tokens "a = uint(31, var(y, ~)) & \"x\"{y * y + 4294967295};" ≡ written no_more 50
unfolding tokens written no_more
no_more_read = refl

no_more_eight : place_eight (judgement no_more) ≡ none
unfolding judgement no_more
no_more_eight = refl

-- `a = uint(31, var(y, ~)) & "x"{y * y + 4294967295 + 1};`: at the calculation's first byte
unfoldable pub one_more : Rules
one_more = last_rule (rule (name 0 "a") (at 2) (last_branch (and_members (once (binder false (lit< tt) (over 4 8) (at 8) (num 9 11 31) (at 11) (over 13 16) (at 16) (name 17 "y") (at 18) (last_choice (item (everything (at 20)))) (at 21) (at 22))) (at 24) (last_member (repeated (literal (quote 26 29 "x")) (counted (at 29) (exactly (sum (product (plain (variable (name 30 "y"))) (times (at 32) (plain (variable (name 34 "y"))) no_factor)) (plus (at 36) (product (plain (number (num 38 48 4294967295))) no_factor) (plus (at 49) (product (plain (number (num 51 52 1))) no_factor) no_summand)))) (at 52)))))) (at 53))

one_more_read : tokens "a = uint(31, var(y, ~)) & \"x\"{y * y + 4294967295 + 1};" ≡ written one_more 54
unfolding tokens written one_more
one_more_read = refl

one_more_eight : place_eight (judgement one_more) ≡ some 30
unfolding judgement one_more
one_more_eight = refl

-- `a = uint(31, var(y, ~)) & "x"{y * y - y * y};`: "sizes added": a minus is no less
unfoldable pub added : Rules
added = last_rule (rule (name 0 "a") (at 2) (last_branch (and_members (once (binder false (lit< tt) (over 4 8) (at 8) (num 9 11 31) (at 11) (over 13 16) (at 16) (name 17 "y") (at 18) (last_choice (item (everything (at 20)))) (at 21) (at 22))) (at 24) (last_member (repeated (literal (quote 26 29 "x")) (counted (at 29) (exactly (sum (product (plain (variable (name 30 "y"))) (times (at 32) (plain (variable (name 34 "y"))) no_factor)) (minus (at 36) (product (plain (variable (name 38 "y"))) (times (at 40) (plain (variable (name 42 "y"))) no_factor)) no_summand))) (at 43)))))) (at 44))

added_read : tokens "a = uint(31, var(y, ~)) & \"x\"{y * y - y * y};" ≡ written added 45
unfolding tokens written added
added_read = refl

added_eight : place_eight (judgement added) ≡ some 30
unfolding judgement added
added_eight = refl

-- `a = uint(31, var(y, ~)) & "x"{1~-y * -y * 2};`: the second calculation of two, and its unary minus
unfoldable pub unary : Rules
unary = last_rule (rule (name 0 "a") (at 2) (last_branch (and_members (once (binder false (lit< tt) (over 4 8) (at 8) (num 9 11 31) (at 11) (over 13 16) (at 16) (name 17 "y") (at 18) (last_choice (item (everything (at 20)))) (at 21) (at 22))) (at 24) (last_member (repeated (literal (quote 26 29 "x")) (counted (at 29) (span (sum (product (plain (number (num 30 31 1))) no_factor) no_summand) (at 31) (sum (product (opposite (at 32) (variable (name 33 "y"))) (times (at 35) (opposite (at 37) (variable (name 38 "y"))) (times (at 40) (plain (number (num 42 43 2))) no_factor))) no_summand)) (at 43)))))) (at 44))

unary_read : tokens "a = uint(31, var(y, ~)) & \"x\"{1~-y * -y * 2};" ≡ written unary 45
unfolding tokens written unary
unary_read = refl

unary_eight : place_eight (judgement unary) ≡ some 32
unfolding judgement unary
unary_eight = refl

-- `a = uint(32, var(x, ~)) & "x"{x * x * 0};`: "or part of one"
unfoldable pub a_part : Rules
a_part = last_rule (rule (name 0 "a") (at 2) (last_branch (and_members (once (binder false (lit< tt) (over 4 8) (at 8) (num 9 11 32) (at 11) (over 13 16) (at 16) (name 17 "x") (at 18) (last_choice (item (everything (at 20)))) (at 21) (at 22))) (at 24) (last_member (repeated (literal (quote 26 29 "x")) (counted (at 29) (exactly (sum (product (plain (variable (name 30 "x"))) (times (at 32) (plain (variable (name 34 "x"))) (times (at 36) (plain (number (num 38 39 0))) no_factor))) no_summand)) (at 39)))))) (at 40))

a_part_read : tokens "a = uint(32, var(x, ~)) & \"x\"{x * x * 0};" ≡ written a_part 41
unfolding tokens written a_part
a_part_read = refl

a_part_eight : place_eight (judgement a_part) ≡ some 30
unfolding judgement a_part
a_part_eight = refl

-- `a = uint(32, var(x, ~)) & "x"{0 * x * x};`: from the left: no part of it passes
unfoldable pub no_part : Rules
no_part = last_rule (rule (name 0 "a") (at 2) (last_branch (and_members (once (binder false (lit< tt) (over 4 8) (at 8) (num 9 11 32) (at 11) (over 13 16) (at 16) (name 17 "x") (at 18) (last_choice (item (everything (at 20)))) (at 21) (at 22))) (at 24) (last_member (repeated (literal (quote 26 29 "x")) (counted (at 29) (exactly (sum (product (plain (number (num 30 31 0))) (times (at 32) (plain (variable (name 34 "x"))) (times (at 36) (plain (variable (name 38 "x"))) no_factor))) no_summand)) (at 39)))))) (at 40))

no_part_read : tokens "a = uint(32, var(x, ~)) & \"x\"{0 * x * x};" ≡ written no_part 41
unfolding tokens written no_part
no_part_read = refl

no_part_eight : place_eight (judgement no_part) ≡ none
unfolding judgement no_part
no_part_eight = refl

-- `a = uint(32, var(x, ~)) & "x"{0 + x * x * 0 + 1};`: part of a summand
unfoldable pub a_summand : Rules
a_summand = last_rule (rule (name 0 "a") (at 2) (last_branch (and_members (once (binder false (lit< tt) (over 4 8) (at 8) (num 9 11 32) (at 11) (over 13 16) (at 16) (name 17 "x") (at 18) (last_choice (item (everything (at 20)))) (at 21) (at 22))) (at 24) (last_member (repeated (literal (quote 26 29 "x")) (counted (at 29) (exactly (sum (product (plain (number (num 30 31 0))) no_factor) (plus (at 32) (product (plain (variable (name 34 "x"))) (times (at 36) (plain (variable (name 38 "x"))) (times (at 40) (plain (number (num 42 43 0))) no_factor))) (plus (at 44) (product (plain (number (num 46 47 1))) no_factor) no_summand)))) (at 47)))))) (at 48))

a_summand_read : tokens "a = uint(32, var(x, ~)) & \"x\"{0 + x * x * 0 + 1};" ≡ written a_summand 49
unfolding tokens written a_summand
a_summand_read = refl

a_summand_eight : place_eight (judgement a_summand) ≡ some 30
unfolding judgement a_summand
a_summand_eight = refl

-- `a = uint(32, var(x, ~)) & "x"{1 - x * x * 0};`
unfoldable pub a_difference : Rules
a_difference = last_rule (rule (name 0 "a") (at 2) (last_branch (and_members (once (binder false (lit< tt) (over 4 8) (at 8) (num 9 11 32) (at 11) (over 13 16) (at 16) (name 17 "x") (at 18) (last_choice (item (everything (at 20)))) (at 21) (at 22))) (at 24) (last_member (repeated (literal (quote 26 29 "x")) (counted (at 29) (exactly (sum (product (plain (number (num 30 31 1))) no_factor) (minus (at 32) (product (plain (variable (name 34 "x"))) (times (at 36) (plain (variable (name 38 "x"))) (times (at 40) (plain (number (num 42 43 0))) no_factor))) no_summand))) (at 43)))))) (at 44))

a_difference_read : tokens "a = uint(32, var(x, ~)) & \"x\"{1 - x * x * 0};" ≡ written a_difference 45
unfolding tokens written a_difference
a_difference_read = refl

a_difference_eight : place_eight (judgement a_difference) ≡ some 30
unfolding judgement a_difference
a_difference_eight = refl

-- `a = uint(8, 0 * 4611686018427387905);`: one factor
unfoldable pub a_factor : Rules
a_factor = last_rule (rule (name 0 "a") (at 2) (last_branch (last_member (once (field false (lit< tt) (over 4 8) (at 8) (num 9 10 8) (at 10) (last_choice (item (only (sum (product (plain (number (num 12 13 0))) (times (at 14) (plain (number (num 16 35 4611686018427387905))) no_factor)) no_summand)))) (at 35))))) (at 36))

a_factor_read : tokens "a = uint(8, 0 * 4611686018427387905);" ≡ written a_factor 37
unfolding tokens written a_factor
a_factor_read = refl

a_factor_eight : place_eight (judgement a_factor) ≡ some 12
unfolding judgement a_factor
a_factor_eight = refl

-- `a = uint(8, var(x, ~)) & "x"{x * x * 4294967295}; b = uint(32, var(x, ~)) & [x = 2 & 2 < x * x: "x";];`: each rule's own width; in conditions too
unfoldable pub own_widths : Rules
own_widths = and_rules (rule (name 0 "a") (at 2) (last_branch (and_members (once (binder false (lit< tt) (over 4 8) (at 8) (num 9 10 8) (at 10) (over 12 15) (at 15) (name 16 "x") (at 17) (last_choice (item (everything (at 19)))) (at 20) (at 21))) (at 23) (last_member (repeated (literal (quote 25 28 "x")) (counted (at 28) (exactly (sum (product (plain (variable (name 29 "x"))) (times (at 31) (plain (variable (name 33 "x"))) (times (at 35) (plain (number (num 37 47 4294967295))) no_factor))) no_summand)) (at 47)))))) (at 48)) (last_rule (rule (name 50 "b") (at 52) (last_branch (and_members (once (binder false (lit< tt) (over 54 58) (at 58) (num 59 61 32) (at 61) (over 63 66) (at 66) (name 67 "x") (at 68) (last_choice (item (everything (at 70)))) (at 71) (at 72))) (at 74) (last_member (once (switch (lit< tt) (at 76) (last_case (all_of (compare (sum (product (plain (variable (name 77 "x"))) no_factor) no_summand) equal (at 79) (sum (product (plain (number (num 81 82 2))) no_factor) no_summand)) (at 83) (last_conjunct (compare (sum (product (plain (number (num 85 86 2))) no_factor) no_summand) less (at 87) (sum (product (plain (variable (name 89 "x"))) (times (at 91) (plain (variable (name 93 "x"))) no_factor)) no_summand)))) (at 94) (last_branch (last_member (once (literal (quote 96 99 "x"))))) (at 99)) (at 100)))))) (at 101)))

own_widths_read : tokens "a = uint(8, var(x, ~)) & \"x\"{x * x * 4294967295}; b = uint(32, var(x, ~)) & [x = 2 & 2 < x * x: \"x\";];" ≡ written own_widths 102
unfolding tokens written own_widths
own_widths_read = refl

own_widths_eight : place_eight (judgement own_widths) ≡ some 89
unfolding judgement own_widths
own_widths_eight = refl

-- `a = uint(32, var(x, ~)) & uint(8, var(y, ~)) & "x"{y * y};`: each variable's own width
unfoldable pub each_width : Rules
each_width = last_rule (rule (name 0 "a") (at 2) (last_branch (and_members (once (binder false (lit< tt) (over 4 8) (at 8) (num 9 11 32) (at 11) (over 13 16) (at 16) (name 17 "x") (at 18) (last_choice (item (everything (at 20)))) (at 21) (at 22))) (at 24) (and_members (once (binder false (lit< tt) (over 26 30) (at 30) (num 31 32 8) (at 32) (over 34 37) (at 37) (name 38 "y") (at 39) (last_choice (item (everything (at 41)))) (at 42) (at 43))) (at 45) (last_member (repeated (literal (quote 47 50 "x")) (counted (at 50) (exactly (sum (product (plain (variable (name 51 "y"))) (times (at 53) (plain (variable (name 55 "y"))) no_factor)) no_summand)) (at 56))))))) (at 57))

each_width_read : tokens "a = uint(32, var(x, ~)) & uint(8, var(y, ~)) & \"x\"{y * y};" ≡ written each_width 58
unfolding tokens written each_width
each_width_read = refl

each_width_eight : place_eight (judgement each_width) ≡ none
unfolding judgement each_width
each_width_eight = refl

-- `a = uint(8, 1 ! (3 | 4611686018427387905)) & "x"{4611686018427387905};`: in a set in parentheses; the smaller of two
unfoldable pub in_sets : Rules
in_sets = last_rule (rule (name 0 "a") (at 2) (last_branch (and_members (once (field false (lit< tt) (over 4 8) (at 8) (num 9 10 8) (at 10) (last_choice (item_but_set (lit< tt) (only (sum (product (plain (number (num 12 13 1))) no_factor) no_summand)) (at 14) (at 16) (or_choices (item (only (sum (product (plain (number (num 17 18 3))) no_factor) no_summand))) (at 19) (last_choice (item (only (sum (product (plain (number (num 21 40 4611686018427387905))) no_factor) no_summand))))) (at 40))) (at 41))) (at 43) (last_member (repeated (literal (quote 45 48 "x")) (counted (at 48) (exactly (sum (product (plain (number (num 49 68 4611686018427387905))) no_factor) no_summand)) (at 68)))))) (at 69))

in_sets_read : tokens "a = uint(8, 1 ! (3 | 4611686018427387905)) & \"x\"{4611686018427387905};" ≡ written in_sets 70
unfolding tokens written in_sets
in_sets_read = refl

in_sets_eight : place_eight (judgement in_sets) ≡ some 21
unfolding judgement in_sets
in_sets_eight = refl

-- `a = sint(62, var(x, ~)) & sint(4, x + x);`: a signed variable's size is 2^(width - 1): twice 2^61 is no more than 2^62
unfoldable pub signed_most : Rules
signed_most = last_rule (rule (name 0 "a") (at 2) (last_branch (and_members (once (binder true (lit< tt) (over 4 8) (at 8) (num 9 11 62) (at 11) (over 13 16) (at 16) (name 17 "x") (at 18) (last_choice (item (everything (at 20)))) (at 21) (at 22))) (at 24) (last_member (once (field true (lit< tt) (over 26 30) (at 30) (num 31 32 4) (at 32) (last_choice (item (only (sum (product (plain (variable (name 34 "x"))) no_factor) (plus (at 36) (product (plain (variable (name 38 "x"))) no_factor) no_summand))))) (at 39)))))) (at 40))

signed_most_read : tokens "a = sint(62, var(x, ~)) & sint(4, x + x);" ≡ written signed_most 41
unfolding tokens written signed_most
signed_most_read = refl

signed_most_eight : place_eight (judgement signed_most) ≡ none
unfolding judgement signed_most
signed_most_eight = refl

-- `a = sint(62, var(x, ~)) & sint(4, x + x + 1);`: one more
unfoldable pub signed_more : Rules
signed_more = last_rule (rule (name 0 "a") (at 2) (last_branch (and_members (once (binder true (lit< tt) (over 4 8) (at 8) (num 9 11 62) (at 11) (over 13 16) (at 16) (name 17 "x") (at 18) (last_choice (item (everything (at 20)))) (at 21) (at 22))) (at 24) (last_member (once (field true (lit< tt) (over 26 30) (at 30) (num 31 32 4) (at 32) (last_choice (item (only (sum (product (plain (variable (name 34 "x"))) no_factor) (plus (at 36) (product (plain (variable (name 38 "x"))) no_factor) (plus (at 40) (product (plain (number (num 42 43 1))) no_factor) no_summand)))))) (at 43)))))) (at 44))

signed_more_read : tokens "a = sint(62, var(x, ~)) & sint(4, x + x + 1);" ≡ written signed_more 45
unfolding tokens written signed_more
signed_more_read = refl

signed_more_eight : place_eight (judgement signed_more) ≡ some 34
unfolding judgement signed_more
signed_more_eight = refl

-- `a = uint(62, var(x, ~)) & sint(4, x + x);`: of an unsigned one it is 2^width - 1
unfoldable pub unsigned_more : Rules
unsigned_more = last_rule (rule (name 0 "a") (at 2) (last_branch (and_members (once (binder false (lit< tt) (over 4 8) (at 8) (num 9 11 62) (at 11) (over 13 16) (at 16) (name 17 "x") (at 18) (last_choice (item (everything (at 20)))) (at 21) (at 22))) (at 24) (last_member (once (field true (lit< tt) (over 26 30) (at 30) (num 31 32 4) (at 32) (last_choice (item (only (sum (product (plain (variable (name 34 "x"))) no_factor) (plus (at 36) (product (plain (variable (name 38 "x"))) no_factor) no_summand))))) (at 39)))))) (at 40))

unsigned_more_read : tokens "a = uint(62, var(x, ~)) & sint(4, x + x);" ≡ written unsigned_more 41
unfolding tokens written unsigned_more
unsigned_more_read = refl

unsigned_more_eight : place_eight (judgement unsigned_more) ≡ some 34
unfolding judgement unsigned_more
unsigned_more_eight = refl
