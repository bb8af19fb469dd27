-- The bench sheet's rules: their trees, that they are read of them, their totals, that 5, 6 and 8 do not fit, and their constructs. Places count from the first rule.
-- Assumes nothing.
use mathlib.Core.Path.{◌≡◌, refl}
use mathlib.Core.Bool.{true, false}
use mathlib.Core.List.{[], ◌∷◌}
use mathlib.Core.Option.{none, some}
use lib.Dec.{lit<}
use lib.IntN.{pos}
use Rattle.basis.specs.Counts.{none as no-count, from as count_from, within}
use Rattle.text_header.specs.Spans.{starts}
use Rattle.tree.specs.Tree.{number, variable, plain, no_factor, product, no_summand, minus, sum, everything, only, between, item, last_choice, exactly, equal, compare, one_test, optional, any_number, counted, literal, field, binder, rule_use, group, switch, last_case, case_cases, once, repeated, last_member, and_members, last_branch, or_branches, rule, Rules, last_rule, and_rules}
use Rattle.tree_meaning.proofs.Building.{bytes, at, over, name, num, quote}
use Rattle.tree_meaning.proofs.Computing.{tokens, written, judged, judgement, one_of, in_order, repeats, chooses, opens, takes, seen, placed, marked}

-- `frame = uint(8, var(len, 1~8)) & uint(8, ~){len};`
unfoldable pub G : Rules
G = last_rule (rule (name 0 "frame") (at 6) (last_branch (and_members (once (binder false (lit< tt) (over 8 12) (at 12) (num 13 14 8) (at 14) (over 16 19) (at 19) (name 20 "len") (at 23) (last_choice (item (between (sum (product (plain (number (num 25 26 1))) no_factor) no_summand) (at 26) (sum (product (plain (number (num 27 28 8))) no_factor) no_summand)))) (at 28) (at 29))) (at 31) (last_member (repeated (field false (lit< tt) (over 33 37) (at 37) (num 38 39 8) (at 39) (last_choice (item (everything (at 41)))) (at 42)) (counted (at 43) (exactly (sum (product (plain (variable (name 44 "len"))) no_factor) no_summand)) (at 47)))))) (at 48))

G-read : tokens "frame = uint(8, var(len, 1~8)) & uint(8, ~){len};" ≡ written G 49
unfolding tokens written G
G-read = refl

G-judged : judgement G ≡ judged 1 4 1 5 none none none
unfolding judgement G
G-judged = refl

G-places : placed G ≡ 8 ∷ 8 ∷ 33 ∷ 33 ∷ []
unfolding placed G
G-places = refl

G-marks : marked G ≡ 0 ∷ 0 ∷ 43 ∷ 0 ∷ []
unfolding marked G
G-marks = refl

-- at len 2, on a byte 5: the field binds 5
G-seen : seen G (pos 2 ∷ []) 8 5 ≡ in_order (1 ∷ 2 ∷ []) ∷ takes 8 true true (pos 5 ∷ []) ∷ repeats (within 2 0) (count_from 0) true 3 ∷ takes 8 true true (pos 2 ∷ []) ∷ []
unfolding seen G
G-seen = refl

-- 9 is not in `1~8`
G-seen-9 : seen G (pos 0 ∷ []) 8 9 ≡ in_order (1 ∷ 2 ∷ []) ∷ takes 8 false false (pos 9 ∷ []) ∷ repeats (within 0 0) (count_from 0) true 3 ∷ takes 8 true true (pos 0 ∷ []) ∷ []
unfolding seen G
G-seen-9 = refl

-- `frame = "AB" | "Ac";`
unfoldable pub K5 : Rules
K5 = last_rule (rule (name 0 "frame") (at 6) (or_branches (last_member (once (literal (quote 8 12 "AB")))) (at 13) (last_branch (last_member (once (literal (quote 15 19 "AC")))))) (at 19))

K5-read : tokens "frame = \"AB\" | \"AC\";" ≡ written K5 20
unfolding tokens written K5
K5-read = refl

K5-judged : judgement K5 ≡ judged 1 3 0 0 none none none
unfolding judgement K5
K5-judged = refl

-- 10 is at 24 of the whole text: the alternative
K5-places : placed K5 ≡ 8 ∷ 8 ∷ 15 ∷ []
unfolding placed K5
K5-places = refl

-- on the bits of `Ac`
K5-seen : seen K5 [] 16 16707 ≡ one_of (1 ∷ 2 ∷ []) ∷ takes 16 false false [] ∷ takes 16 true true [] ∷ []
unfolding seen K5
K5-seen = refl

-- `frame = uint(4,1)* & uint(4,2);`
unfoldable pub K6 : Rules
K6 = last_rule (rule (name 0 "frame") (at 6) (last_branch (and_members (repeated (field false (lit< tt) (over 8 12) (at 12) (num 13 14 4) (at 14) (last_choice (item (only (sum (product (plain (number (num 15 16 1))) no_factor) no_summand)))) (at 16)) (any_number (at 17))) (at 19) (last_member (once (field false (lit< tt) (over 21 25) (at 25) (num 26 27 4) (at 27) (last_choice (item (only (sum (product (plain (number (num 28 29 2))) no_factor) no_summand)))) (at 29)))))) (at 30))

K6-read : tokens "frame = uint(4,1)* & uint(4,2);" ≡ written K6 31
unfolding tokens written K6
K6-read = refl

K6-judged : judgement K6 ≡ judged 1 4 0 2 none none none
unfolding judgement K6
K6-judged = refl

K6-places : placed K6 ≡ 8 ∷ 8 ∷ 8 ∷ 21 ∷ []
unfolding placed K6
K6-places = refl

K6-marks : marked K6 ≡ 0 ∷ 17 ∷ 0 ∷ 0 ∷ []
unfolding marked K6
K6-marks = refl

K6-seen : seen K6 [] 4 1 ≡ in_order (1 ∷ 3 ∷ []) ∷ repeats (count_from 0) (count_from 0) false 2 ∷ takes 4 true true [] ∷ takes 4 false false [] ∷ []
unfolding seen K6
K6-seen = refl

-- `frame = ("A"?)*;`
unfoldable pub K8 : Rules
K8 = last_rule (rule (name 0 "frame") (at 6) (last_branch (last_member (repeated (group (lit< tt) (at 8) (last_branch (last_member (repeated (literal (quote 9 12 "A")) (optional (at 12))))) (at 13)) (any_number (at 14))))) (at 15))

K8-read : tokens "frame = (\"A\"?)*;" ≡ written K8 16
unfolding tokens written K8
K8-read = refl

K8-judged : judgement K8 ≡ judged 1 3 0 0 none none none
unfolding judgement K8
K8-judged = refl

K8-places : placed K8 ≡ 8 ∷ 9 ∷ 9 ∷ []
unfolding placed K8
K8-places = refl

-- 9 is at 30 of the whole text: the mark of the outer repetition
K8-marks : marked K8 ≡ 14 ∷ 12 ∷ 0 ∷ []
unfolding marked K8
K8-marks = refl

K8-seen : seen K8 [] 8 65 ≡ repeats (count_from 0) (count_from 0) false 1 ∷ repeats (within 0 1) (within 0 1) false 2 ∷ takes 8 true true [] ∷ []
unfolding seen K8
K8-seen = refl

-- `frame = uint(8, var(n, ~)) & uint(8, ~){n - 1};`
unfoldable pub K9 : Rules
K9 = last_rule (rule (name 0 "frame") (at 6) (last_branch (and_members (once (binder false (lit< tt) (over 8 12) (at 12) (num 13 14 8) (at 14) (over 16 19) (at 19) (name 20 "n") (at 21) (last_choice (item (everything (at 23)))) (at 24) (at 25))) (at 27) (last_member (repeated (field false (lit< tt) (over 29 33) (at 33) (num 34 35 8) (at 35) (last_choice (item (everything (at 37)))) (at 38)) (counted (at 39) (exactly (sum (product (plain (variable (name 40 "n"))) no_factor) (minus (at 42) (product (plain (number (num 44 45 1))) no_factor) no_summand))) (at 45)))))) (at 46))

K9-read : tokens "frame = uint(8, var(n, ~)) & uint(8, ~){n - 1};" ≡ written K9 47
unfolding tokens written K9
K9-read = refl

K9-judged : judgement K9 ≡ judged 1 4 1 5 none none none
unfolding judgement K9
K9-judged = refl

-- `{n - 1}` at 0 is the empty set, at 1 it is 0
K9-at-0 : seen K9 (pos 0 ∷ []) 8 0 ≡ in_order (1 ∷ 2 ∷ []) ∷ takes 8 true true (pos 0 ∷ []) ∷ repeats no-count (count_from 0) true 3 ∷ takes 8 true true (pos 0 ∷ []) ∷ []
unfolding seen K9
K9-at-0 = refl

K9-at-1 : seen K9 (pos 1 ∷ []) 8 1 ≡ in_order (1 ∷ 2 ∷ []) ∷ takes 8 true true (pos 1 ∷ []) ∷ repeats (within 0 0) (count_from 0) true 3 ∷ takes 8 true true (pos 1 ∷ []) ∷ []
unfolding seen K9
K9-at-1 = refl

-- `frame = uint(8, var(t, ~)) & [t = 1: "A"; t = 2: uint(16, ~);];`
unfoldable pub K10 : Rules
K10 = last_rule (rule (name 0 "frame") (at 6) (last_branch (and_members (once (binder false (lit< tt) (over 8 12) (at 12) (num 13 14 8) (at 14) (over 16 19) (at 19) (name 20 "t") (at 21) (last_choice (item (everything (at 23)))) (at 24) (at 25))) (at 27) (last_member (once (switch (lit< tt) (at 29) (case_cases (one_test (compare (sum (product (plain (variable (name 30 "t"))) no_factor) no_summand) equal (at 32) (sum (product (plain (number (num 34 35 1))) no_factor) no_summand))) (at 35) (last_branch (last_member (once (literal (quote 37 40 "A"))))) (at 40) (last_case (one_test (compare (sum (product (plain (variable (name 42 "t"))) no_factor) no_summand) equal (at 44) (sum (product (plain (number (num 46 47 2))) no_factor) no_summand))) (at 47) (last_branch (last_member (once (field false (lit< tt) (over 49 53) (at 53) (num 54 56 16) (at 56) (last_choice (item (everything (at 58)))) (at 59))))) (at 60))) (at 61)))))) (at 62))

K10-read : tokens "frame = uint(8, var(t, ~)) & [t = 1: \"A\"; t = 2: uint(16, ~);];" ≡ written K10 63
unfolding tokens written K10
K10-read = refl

K10-judged : judgement K10 ≡ judged 1 5 1 8 none none none
unfolding judgement K10
K10-judged = refl

K10-places : placed K10 ≡ 8 ∷ 8 ∷ 29 ∷ 37 ∷ 49 ∷ []
unfolding placed K10
K10-places = refl

K10-at-1 : seen K10 (pos 1 ∷ []) 8 65 ≡ in_order (1 ∷ 2 ∷ []) ∷ takes 8 true true (pos 65 ∷ []) ∷ chooses (some 3) true (3 ∷ 4 ∷ []) ∷ takes 8 true true (pos 1 ∷ []) ∷ takes 16 true true (pos 1 ∷ []) ∷ []
unfolding seen K10
K10-at-1 = refl

-- with neither case, nothing
K10-at-3 : seen K10 (pos 3 ∷ []) 8 65 ≡ in_order (1 ∷ 2 ∷ []) ∷ takes 8 true true (pos 65 ∷ []) ∷ chooses none true (3 ∷ 4 ∷ []) ∷ takes 8 true true (pos 3 ∷ []) ∷ takes 16 true true (pos 3 ∷ []) ∷ []
unfolding seen K10
K10-at-3 = refl

-- `a = "x" & b; b = a;`
unfoldable pub K11 : Rules
unfolding bytes starts
K11 = and_rules (rule (name 0 "a") (at 2) (last_branch (and_members (once (literal (quote 4 7 "x"))) (at 8) (last_member (once (rule_use (name 10 "b") refl))))) (at 11)) (last_rule (rule (name 13 "b") (at 15) (last_branch (last_member (once (rule_use (name 17 "a") refl)))) (at 18)))

K11-read : tokens "a = \"x\" & b; b = a;" ≡ written K11 19
unfolding tokens written K11
K11-read = refl

K11-judged : judgement K11 ≡ judged 2 4 0 0 none none none
unfolding judgement K11
K11-judged = refl

K11-seen : seen K11 [] 8 120 ≡ in_order (1 ∷ 2 ∷ []) ∷ takes 8 true true [] ∷ opens 3 ∷ opens 0 ∷ []
unfolding seen K11
K11-seen = refl
