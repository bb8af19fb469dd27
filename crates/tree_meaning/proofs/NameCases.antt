-- Names that are right, and names that are at fault (6): each with its place.
-- Assumes nothing.
use mathlib.Core.Bool.{false}
use mathlib.Core.Path.{◌≡◌, refl}
use mathlib.Core.Option.{none, some}
use lib.Dec.{lit<}
use Rattle.text_header.specs.Spans.{starts}
use Rattle.tree.specs.Tree.{number, variable, plain, no_factor, product, no_summand, sum, everything, only, item, last_choice, exactly, equal, compare, one_test, optional, counted, literal, field, binder, rule_use, group, switch, last_case, case_default, once, repeated, last_member, and_members, last_branch, or_branches, rule, Rules, last_rule, and_rules}
use Rattle.tree_meaning.proofs.Building.{bytes, at, over, name, num, quote}
use Rattle.tree_meaning.proofs.Computing.{tokens, written, judgement, place_six}

-- `a = "x"; sized = "y";`: reserved
unfoldable pub reserved_rule : Rules
reserved_rule = and_rules (rule (name 0 "a") (at 2) (last_branch (last_member (once (literal (quote 4 7 "x"))))) (at 7)) (last_rule (rule (name 9 "sized") (at 15) (last_branch (last_member (once (literal (quote 17 20 "y"))))) (at 20)))

reserved_rule_read : tokens "a = \"x\"; sized = \"y\";" ≡ written reserved_rule 21
unfolding tokens written reserved_rule
reserved_rule_read = refl

reserved_rule_six : place_six (judgement reserved_rule) ≡ some 9
unfolding judgement reserved_rule
reserved_rule_six = refl

-- `a = "x"; b = "y"; a = "z";`: double: the later of two
unfoldable pub double_rule : Rules
double_rule = and_rules (rule (name 0 "a") (at 2) (last_branch (last_member (once (literal (quote 4 7 "x"))))) (at 7)) (and_rules (rule (name 9 "b") (at 11) (last_branch (last_member (once (literal (quote 13 16 "y"))))) (at 16)) (last_rule (rule (name 18 "a") (at 20) (last_branch (last_member (once (literal (quote 22 25 "z"))))) (at 25))))

double_rule_read : tokens "a = \"x\"; b = \"y\"; a = \"z\";" ≡ written double_rule 26
unfolding tokens written double_rule
double_rule_read = refl

double_rule_six : place_six (judgement double_rule) ≡ some 18
unfolding judgement double_rule
double_rule_six = refl

-- `a = "x" & c; b = "y";`: unknown
unfoldable pub unknown_rule : Rules
unfolding bytes starts
unknown_rule = and_rules (rule (name 0 "a") (at 2) (last_branch (and_members (once (literal (quote 4 7 "x"))) (at 8) (last_member (once (rule_use (name 10 "c") refl))))) (at 11)) (last_rule (rule (name 13 "b") (at 15) (last_branch (last_member (once (literal (quote 17 20 "y"))))) (at 20)))

unknown_rule_read : tokens "a = \"x\" & c; b = \"y\";" ≡ written unknown_rule 21
unfolding tokens written unknown_rule
unknown_rule_read = refl

unknown_rule_six : place_six (judgement unknown_rule) ≡ some 10
unfolding judgement unknown_rule
unknown_rule_six = refl

-- `a = uint;`: reserved, whatever rule is so named
unfoldable pub reserved_use : Rules
unfolding bytes starts
reserved_use = last_rule (rule (name 0 "a") (at 2) (last_branch (last_member (once (rule_use (name 4 "uint") refl)))) (at 8))

reserved_use_read : tokens "a = uint;" ≡ written reserved_use 9
unfolding tokens written reserved_use
reserved_use_read = refl

reserved_use_six : place_six (judgement reserved_use) ≡ some 4
unfolding judgement reserved_use
reserved_use_six = refl

-- `a = sized; sized = "x";`: reserved, although there is such a rule
unfoldable pub reserved_used : Rules
unfolding bytes starts
reserved_used = and_rules (rule (name 0 "a") (at 2) (last_branch (last_member (once (rule_use (name 4 "sized") refl)))) (at 9)) (last_rule (rule (name 11 "sized") (at 17) (last_branch (last_member (once (literal (quote 19 22 "x"))))) (at 22)))

reserved_used_read : tokens "a = sized; sized = \"x\";" ≡ written reserved_used 23
unfolding tokens written reserved_used
reserved_used_read = refl

reserved_used_six : place_six (judgement reserved_used) ≡ some 4
unfolding judgement reserved_used
reserved_used_six = refl

-- `a = b & uint(8, var(b, ~)); b = "x";`: a variable hides the rule in its whole rule, before its binder too
unfoldable pub hidden : Rules
unfolding bytes starts
hidden = and_rules (rule (name 0 "a") (at 2) (last_branch (and_members (once (rule_use (name 4 "b") refl)) (at 6) (last_member (once (binder false (lit< tt) (over 8 12) (at 12) (num 13 14 8) (at 14) (over 16 19) (at 19) (name 20 "b") (at 21) (last_choice (item (everything (at 23)))) (at 24) (at 25)))))) (at 26)) (last_rule (rule (name 28 "b") (at 30) (last_branch (last_member (once (literal (quote 32 35 "x"))))) (at 35)))

hidden_read : tokens "a = b & uint(8, var(b, ~)); b = \"x\";" ≡ written hidden 36
unfolding tokens written hidden
hidden_read = refl

hidden_six : place_six (judgement hidden) ≡ some 4
unfolding judgement hidden
hidden_six = refl

-- `a = b; b = uint(8, var(a, ~)); c = a;`: and in no other rule; a variable may have any rule's name
unfoldable pub hidden_elsewhere : Rules
unfolding bytes starts
hidden_elsewhere = and_rules (rule (name 0 "a") (at 2) (last_branch (last_member (once (rule_use (name 4 "b") refl)))) (at 5)) (and_rules (rule (name 7 "b") (at 9) (last_branch (last_member (once (binder false (lit< tt) (over 11 15) (at 15) (num 16 17 8) (at 17) (over 19 22) (at 22) (name 23 "a") (at 24) (last_choice (item (everything (at 26)))) (at 27) (at 28))))) (at 29)) (last_rule (rule (name 31 "c") (at 33) (last_branch (last_member (once (rule_use (name 35 "a") refl)))) (at 36))))

hidden_elsewhere_read : tokens "a = b; b = uint(8, var(a, ~)); c = a;" ≡ written hidden_elsewhere 37
unfolding tokens written hidden_elsewhere
hidden_elsewhere_read = refl

hidden_elsewhere_six : place_six (judgement hidden_elsewhere) ≡ none
unfolding judgement hidden_elsewhere
hidden_elsewhere_six = refl

-- `a = uint(8, var(a, ~)) & uint(8, a);`: its own rule's name too
unfoldable pub own_name : Rules
own_name = last_rule (rule (name 0 "a") (at 2) (last_branch (and_members (once (binder false (lit< tt) (over 4 8) (at 8) (num 9 10 8) (at 10) (over 12 15) (at 15) (name 16 "a") (at 17) (last_choice (item (everything (at 19)))) (at 20) (at 21))) (at 23) (last_member (once (field false (lit< tt) (over 25 29) (at 29) (num 30 31 8) (at 31) (last_choice (item (only (sum (product (plain (variable (name 33 "a"))) no_factor) no_summand)))) (at 34)))))) (at 35))

own_name_read : tokens "a = uint(8, var(a, ~)) & uint(8, a);" ≡ written own_name 36
unfolding tokens written own_name
own_name_read = refl

own_name_six : place_six (judgement own_name) ≡ none
unfolding judgement own_name
own_name_six = refl

-- `a = uint(8, var(n, ~)) & uint(8, b); b = "x";`: of the wrong kind: a rule's name in a set
unfoldable pub rule_as_variable : Rules
rule_as_variable = and_rules (rule (name 0 "a") (at 2) (last_branch (and_members (once (binder false (lit< tt) (over 4 8) (at 8) (num 9 10 8) (at 10) (over 12 15) (at 15) (name 16 "n") (at 17) (last_choice (item (everything (at 19)))) (at 20) (at 21))) (at 23) (last_member (once (field false (lit< tt) (over 25 29) (at 29) (num 30 31 8) (at 31) (last_choice (item (only (sum (product (plain (variable (name 33 "b"))) no_factor) no_summand)))) (at 34)))))) (at 35)) (last_rule (rule (name 37 "b") (at 39) (last_branch (last_member (once (literal (quote 41 44 "x"))))) (at 44)))

rule_as_variable_read : tokens "a = uint(8, var(n, ~)) & uint(8, b); b = \"x\";" ≡ written rule_as_variable 45
unfolding tokens written rule_as_variable
rule_as_variable_read = refl

rule_as_variable_six : place_six (judgement rule_as_variable) ≡ some 33
unfolding judgement rule_as_variable
rule_as_variable_six = refl

-- `a = uint(8, var(n, ~)); b = uint(8, n);`: "Variables are local to a rule"
unfoldable pub other_rule : Rules
other_rule = and_rules (rule (name 0 "a") (at 2) (last_branch (last_member (once (binder false (lit< tt) (over 4 8) (at 8) (num 9 10 8) (at 10) (over 12 15) (at 15) (name 16 "n") (at 17) (last_choice (item (everything (at 19)))) (at 20) (at 21))))) (at 22)) (last_rule (rule (name 24 "b") (at 26) (last_branch (last_member (once (field false (lit< tt) (over 28 32) (at 32) (num 33 34 8) (at 34) (last_choice (item (only (sum (product (plain (variable (name 36 "n"))) no_factor) no_summand)))) (at 37))))) (at 38)))

other_rule_read : tokens "a = uint(8, var(n, ~)); b = uint(8, n);" ≡ written other_rule 39
unfolding tokens written other_rule
other_rule_read = refl

other_rule_six : place_six (judgement other_rule) ≡ some 36
unfolding judgement other_rule
other_rule_six = refl

-- `a = uint(8, var(n, n));`: a binder's own set is no later member
unfoldable pub own_set : Rules
own_set = last_rule (rule (name 0 "a") (at 2) (last_branch (last_member (once (binder false (lit< tt) (over 4 8) (at 8) (num 9 10 8) (at 10) (over 12 15) (at 15) (name 16 "n") (at 17) (last_choice (item (only (sum (product (plain (variable (name 19 "n"))) no_factor) no_summand)))) (at 20) (at 21))))) (at 22))

own_set_read : tokens "a = uint(8, var(n, n));" ≡ written own_set 23
unfolding tokens written own_set
own_set_read = refl

own_set_six : place_six (judgement own_set) ≡ some 19
unfolding judgement own_set
own_set_six = refl

-- `a = uint(8, n) & uint(8, var(n, ~));`: nor is an earlier one
unfoldable pub earlier : Rules
earlier = last_rule (rule (name 0 "a") (at 2) (last_branch (and_members (once (field false (lit< tt) (over 4 8) (at 8) (num 9 10 8) (at 10) (last_choice (item (only (sum (product (plain (variable (name 12 "n"))) no_factor) no_summand)))) (at 13))) (at 15) (last_member (once (binder false (lit< tt) (over 17 21) (at 21) (num 22 23 8) (at 23) (over 25 28) (at 28) (name 29 "n") (at 30) (last_choice (item (everything (at 32)))) (at 33) (at 34)))))) (at 35))

earlier_read : tokens "a = uint(8, n) & uint(8, var(n, ~));" ≡ written earlier 36
unfolding tokens written earlier
earlier_read = refl

earlier_six : place_six (judgement earlier) ≡ some 12
unfolding judgement earlier
earlier_six = refl

-- `a = uint(8, var(n, ~)) & "x"{n} & [n = 1: "y"{n};];`: uses in later members, inside them too
unfoldable pub later : Rules
later = last_rule (rule (name 0 "a") (at 2) (last_branch (and_members (once (binder false (lit< tt) (over 4 8) (at 8) (num 9 10 8) (at 10) (over 12 15) (at 15) (name 16 "n") (at 17) (last_choice (item (everything (at 19)))) (at 20) (at 21))) (at 23) (and_members (repeated (literal (quote 25 28 "x")) (counted (at 28) (exactly (sum (product (plain (variable (name 29 "n"))) no_factor) no_summand)) (at 30))) (at 32) (last_member (once (switch (lit< tt) (at 34) (last_case (one_test (compare (sum (product (plain (variable (name 35 "n"))) no_factor) no_summand) equal (at 37) (sum (product (plain (number (num 39 40 1))) no_factor) no_summand))) (at 40) (last_branch (last_member (repeated (literal (quote 42 45 "y")) (counted (at 45) (exactly (sum (product (plain (variable (name 46 "n"))) no_factor) no_summand)) (at 47))))) (at 48)) (at 49))))))) (at 50))

later_read : tokens "a = uint(8, var(n, ~)) & \"x\"{n} & [n = 1: \"y\"{n};];" ≡ written later 51
unfolding tokens written later
later_read = refl

later_six : place_six (judgement later) ≡ none
unfolding judgement later
later_six = refl

-- `a = uint(8, var(n, ~)) & "x" & uint(4, var(n, ~));`: double: the later of two
unfoldable pub double_variable : Rules
double_variable = last_rule (rule (name 0 "a") (at 2) (last_branch (and_members (once (binder false (lit< tt) (over 4 8) (at 8) (num 9 10 8) (at 10) (over 12 15) (at 15) (name 16 "n") (at 17) (last_choice (item (everything (at 19)))) (at 20) (at 21))) (at 23) (and_members (once (literal (quote 25 28 "x"))) (at 29) (last_member (once (binder false (lit< tt) (over 31 35) (at 35) (num 36 37 4) (at 37) (over 39 42) (at 42) (name 43 "n") (at 44) (last_choice (item (everything (at 46)))) (at 47) (at 48))))))) (at 49))

double_variable_read : tokens "a = uint(8, var(n, ~)) & \"x\" & uint(4, var(n, ~));" ≡ written double_variable 50
unfolding tokens written double_variable
double_variable_read = refl

double_variable_six : place_six (judgement double_variable) ≡ some 43
unfolding judgement double_variable
double_variable_six = refl

-- `a = uint(8, var(eod, ~));`: reserved
unfoldable pub reserved_variable : Rules
reserved_variable = last_rule (rule (name 0 "a") (at 2) (last_branch (last_member (once (binder false (lit< tt) (over 4 8) (at 8) (num 9 10 8) (at 10) (over 12 15) (at 15) (name 16 "eod") (at 19) (last_choice (item (everything (at 21)))) (at 22) (at 23))))) (at 24))

reserved_variable_read : tokens "a = uint(8, var(eod, ~));" ≡ written reserved_variable 25
unfolding tokens written reserved_variable
reserved_variable_read = refl

reserved_variable_six : place_six (judgement reserved_variable) ≡ some 16
unfolding judgement reserved_variable
reserved_variable_six = refl

-- `a = uint(8, var(n, ~));`: the whole body
unfoldable pub body_binder : Rules
body_binder = last_rule (rule (name 0 "a") (at 2) (last_branch (last_member (once (binder false (lit< tt) (over 4 8) (at 8) (num 9 10 8) (at 10) (over 12 15) (at 15) (name 16 "n") (at 17) (last_choice (item (everything (at 19)))) (at 20) (at 21))))) (at 22))

body_binder_read : tokens "a = uint(8, var(n, ~));" ≡ written body_binder 23
unfolding tokens written body_binder
body_binder_read = refl

body_binder_six : place_six (judgement body_binder) ≡ none
unfolding judgement body_binder
body_binder_six = refl

-- `a = (uint(8, var(n, ~)));`: misplaced: in a group, even around the whole body
unfoldable pub grouped : Rules
grouped = last_rule (rule (name 0 "a") (at 2) (last_branch (last_member (once (group (lit< tt) (at 4) (last_branch (last_member (once (binder false (lit< tt) (over 5 9) (at 9) (num 10 11 8) (at 11) (over 13 16) (at 16) (name 17 "n") (at 18) (last_choice (item (everything (at 20)))) (at 21) (at 22))))) (at 23))))) (at 24))

grouped_read : tokens "a = (uint(8, var(n, ~)));" ≡ written grouped 25
unfolding tokens written grouped
grouped_read = refl

grouped_six : place_six (judgement grouped) ≡ some 17
unfolding judgement grouped
grouped_six = refl

-- `a = "x" & uint(8, var(n, ~))?;`: under a repetition
unfoldable pub repeated_binder : Rules
repeated_binder = last_rule (rule (name 0 "a") (at 2) (last_branch (and_members (once (literal (quote 4 7 "x"))) (at 8) (last_member (repeated (binder false (lit< tt) (over 10 14) (at 14) (num 15 16 8) (at 16) (over 18 21) (at 21) (name 22 "n") (at 23) (last_choice (item (everything (at 25)))) (at 26) (at 27)) (optional (at 28)))))) (at 29))

repeated_binder_read : tokens "a = \"x\" & uint(8, var(n, ~))?;" ≡ written repeated_binder 30
unfolding tokens written repeated_binder
repeated_binder_read = refl

repeated_binder_six : place_six (judgement repeated_binder) ≡ some 22
unfolding judgement repeated_binder
repeated_binder_six = refl

-- `a = uint(8, var(n, ~)) | "x";`: in a branch
unfoldable pub branch_binder : Rules
branch_binder = last_rule (rule (name 0 "a") (at 2) (or_branches (last_member (once (binder false (lit< tt) (over 4 8) (at 8) (num 9 10 8) (at 10) (over 12 15) (at 15) (name 16 "n") (at 17) (last_choice (item (everything (at 19)))) (at 20) (at 21)))) (at 23) (last_branch (last_member (once (literal (quote 25 28 "x")))))) (at 28))

branch_binder_read : tokens "a = uint(8, var(n, ~)) | \"x\";" ≡ written branch_binder 29
unfolding tokens written branch_binder
branch_binder_read = refl

branch_binder_six : place_six (judgement branch_binder) ≡ some 16
unfolding judgement branch_binder
branch_binder_six = refl

-- `a = "x" | "y" & uint(8, var(n, ~));`: in a branch's concatenation, which is not the top one
unfoldable pub branch_member : Rules
branch_member = last_rule (rule (name 0 "a") (at 2) (or_branches (last_member (once (literal (quote 4 7 "x")))) (at 8) (last_branch (and_members (once (literal (quote 10 13 "y"))) (at 14) (last_member (once (binder false (lit< tt) (over 16 20) (at 20) (num 21 22 8) (at 22) (over 24 27) (at 27) (name 28 "n") (at 29) (last_choice (item (everything (at 31)))) (at 32) (at 33))))))) (at 34))

branch_member_read : tokens "a = \"x\" | \"y\" & uint(8, var(n, ~));" ≡ written branch_member 35
unfolding tokens written branch_member
branch_member_read = refl

branch_member_six : place_six (judgement branch_member) ≡ some 28
unfolding judgement branch_member
branch_member_six = refl

-- `a = [1 = 1: uint(8, var(n, ~));];`: in a case
unfoldable pub case_binder : Rules
case_binder = last_rule (rule (name 0 "a") (at 2) (last_branch (last_member (once (switch (lit< tt) (at 4) (last_case (one_test (compare (sum (product (plain (number (num 5 6 1))) no_factor) no_summand) equal (at 7) (sum (product (plain (number (num 9 10 1))) no_factor) no_summand))) (at 10) (last_branch (last_member (once (binder false (lit< tt) (over 12 16) (at 16) (num 17 18 8) (at 18) (over 20 23) (at 23) (name 24 "n") (at 25) (last_choice (item (everything (at 27)))) (at 28) (at 29))))) (at 30)) (at 31))))) (at 32))

case_binder_read : tokens "a = [1 = 1: uint(8, var(n, ~));];" ≡ written case_binder 33
unfolding tokens written case_binder
case_binder_read = refl

case_binder_six : place_six (judgement case_binder) ≡ some 24
unfolding judgement case_binder
case_binder_six = refl

-- `a = "x" & uint(8, var(msb, k)); b = c;`: "the smallest place": the binder's name before its set's, and both before the next rule's
unfoldable pub smallest : Rules
unfolding bytes starts
smallest = and_rules (rule (name 0 "a") (at 2) (last_branch (and_members (once (literal (quote 4 7 "x"))) (at 8) (last_member (once (binder false (lit< tt) (over 10 14) (at 14) (num 15 16 8) (at 16) (over 18 21) (at 21) (name 22 "msb") (at 25) (last_choice (item (only (sum (product (plain (variable (name 27 "k"))) no_factor) no_summand)))) (at 28) (at 29)))))) (at 30)) (last_rule (rule (name 32 "b") (at 34) (last_branch (last_member (once (rule_use (name 36 "c") refl)))) (at 37)))

smallest_read : tokens "a = \"x\" & uint(8, var(msb, k)); b = c;" ≡ written smallest 38
unfolding tokens written smallest
smallest_read = refl

smallest_six : place_six (judgement smallest) ≡ some 22
unfolding judgement smallest
smallest_six = refl

-- `a = "x" & b & (uint(8, var(b, ~))); b = "x";`: a misplaced binder hides too
unfoldable pub hidden_by_misplaced : Rules
unfolding bytes starts
hidden_by_misplaced = and_rules (rule (name 0 "a") (at 2) (last_branch (and_members (once (literal (quote 4 7 "x"))) (at 8) (and_members (once (rule_use (name 10 "b") refl)) (at 12) (last_member (once (group (lit< tt) (at 14) (last_branch (last_member (once (binder false (lit< tt) (over 15 19) (at 19) (num 20 21 8) (at 21) (over 23 26) (at 26) (name 27 "b") (at 28) (last_choice (item (everything (at 30)))) (at 31) (at 32))))) (at 33))))))) (at 34)) (last_rule (rule (name 36 "b") (at 38) (last_branch (last_member (once (literal (quote 40 43 "x"))))) (at 43)))

hidden_by_misplaced_read : tokens "a = \"x\" & b & (uint(8, var(b, ~))); b = \"x\";" ≡ written hidden_by_misplaced 44
unfolding tokens written hidden_by_misplaced
hidden_by_misplaced_read = refl

hidden_by_misplaced_six : place_six (judgement hidden_by_misplaced) ≡ some 10
unfolding judgement hidden_by_misplaced
hidden_by_misplaced_six = refl

-- `a = "x" & uint(8, var(n, ~)) & uint(8, n);`: a member of the top concatenation, not its first
unfoldable pub second_member : Rules
second_member = last_rule (rule (name 0 "a") (at 2) (last_branch (and_members (once (literal (quote 4 7 "x"))) (at 8) (and_members (once (binder false (lit< tt) (over 10 14) (at 14) (num 15 16 8) (at 16) (over 18 21) (at 21) (name 22 "n") (at 23) (last_choice (item (everything (at 25)))) (at 26) (at 27))) (at 29) (last_member (once (field false (lit< tt) (over 31 35) (at 35) (num 36 37 8) (at 37) (last_choice (item (only (sum (product (plain (variable (name 39 "n"))) no_factor) no_summand)))) (at 40))))))) (at 41))

second_member_read : tokens "a = \"x\" & uint(8, var(n, ~)) & uint(8, n);" ≡ written second_member 42
unfolding tokens written second_member
second_member_read = refl

second_member_six : place_six (judgement second_member) ≡ none
unfolding judgement second_member
second_member_six = refl

-- `a = [1 = 1: "x"; : b;];`: in a default
unfoldable pub in_default : Rules
unfolding bytes starts
in_default = last_rule (rule (name 0 "a") (at 2) (last_branch (last_member (once (switch (lit< tt) (at 4) (case_default (one_test (compare (sum (product (plain (number (num 5 6 1))) no_factor) no_summand) equal (at 7) (sum (product (plain (number (num 9 10 1))) no_factor) no_summand))) (at 10) (last_branch (last_member (once (literal (quote 12 15 "x"))))) (at 15) (at 17) (last_branch (last_member (once (rule_use (name 19 "b") refl)))) (at 20)) (at 21))))) (at 22))

in_default_read : tokens "a = [1 = 1: \"x\"; : b;];" ≡ written in_default 23
unfolding tokens written in_default
in_default_read = refl

in_default_six : place_six (judgement in_default) ≡ some 19
unfolding judgement in_default
in_default_six = refl

-- `a = uint(8, eod) & "x"{msb};`: a reserved name used as a variable
unfoldable pub reserved_variables : Rules
reserved_variables = last_rule (rule (name 0 "a") (at 2) (last_branch (and_members (once (field false (lit< tt) (over 4 8) (at 8) (num 9 10 8) (at 10) (last_choice (item (only (sum (product (plain (variable (name 12 "eod"))) no_factor) no_summand)))) (at 15))) (at 17) (last_member (repeated (literal (quote 19 22 "x")) (counted (at 22) (exactly (sum (product (plain (variable (name 23 "msb"))) no_factor) no_summand)) (at 26)))))) (at 27))

reserved_variables_read : tokens "a = uint(8, eod) & \"x\"{msb};" ≡ written reserved_variables 28
unfolding tokens written reserved_variables
reserved_variables_read = refl

reserved_variables_six : place_six (judgement reserved_variables) ≡ some 12
unfolding judgement reserved_variables
reserved_variables_six = refl
