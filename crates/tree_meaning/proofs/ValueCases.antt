-- Uints with no value left (13), each with its place, and with one.
-- Assumes nothing.
use Prim.Native.Nat.{ℕ}
use mathlib.Core.Path.{◌≡◌, refl, sym}
use mathlib.Core.Bool.{true, false, false≢true}
use lib.Dec.{lit<}
use Rattle.basis.specs.Bits.{bits_of}
use Rattle.tree.specs.Tree.{number, variable, plain, opposite, no_factor, product, no_summand, sum, everything, only, between, item, item_but_item, last_choice, or_choices, literal, range, field, binder, once, last_member, and_members, last_branch, rule, Rules, last_rule}
use Rattle.tree_meaning.specs.Rows.{IsEmpty, NoValues}
use Rattle.tree_meaning.proofs.Building.{bytes, at, over, name, num, quote}
use Rattle.tree_meaning.proofs.Computing.{tokens, written, seen, placed}
use Rattle.tree_meaning.proofs.Valued.{none_among, none_of, AllValued, all_valued, first_empty}

-- `a = "x" & uint(4, -1 | 16);`: "Values below 0 or above the width drop out"
unfoldable pub outside : Rules
outside = last_rule (rule (name 0 "a") (at 2) (last_branch (and_members (once (literal (quote 4 7 "x"))) (at 8) (last_member (once (field false (lit< tt) (over 10 14) (at 14) (num 15 16 4) (at 16) (or_choices (item (only (sum (product (opposite (at 18) (number (num 19 20 1))) no_factor) no_summand))) (at 21) (last_choice (item (only (sum (product (plain (number (num 23 25 16))) no_factor) no_summand))))) (at 25)))))) (at 26))

outside_read : tokens "a = \"x\" & uint(4, -1 | 16);" ≡ written outside 27
unfolding tokens written outside
outside_read = refl

-- at the uint
outside_13 : NoValues outside 10
unfolding seen placed none_among AllValued outside
outside_13 = first_empty outside 2 (refl, none_of _ _ refl) (λ e. e, (λ e. e, tt))

-- `a = uint(4, 15 | 16);`: 15 is left
unfoldable pub one_left : Rules
one_left = last_rule (rule (name 0 "a") (at 2) (last_branch (last_member (once (field false (lit< tt) (over 4 8) (at 8) (num 9 10 4) (at 10) (or_choices (item (only (sum (product (plain (number (num 12 14 15))) no_factor) no_summand))) (at 15) (last_choice (item (only (sum (product (plain (number (num 17 19 16))) no_factor) no_summand))))) (at 19))))) (at 20))

one_left_read : tokens "a = uint(4, 15 | 16);" ≡ written one_left 21
unfolding tokens written one_left
one_left_read = refl

one_left_13 : (i : ℕ) → IsEmpty one_left i → ⊥
unfolding seen AllValued one_left
one_left_13 = all_valued one_left (λ e. false≢true (sym (e.1 (bits_of 4 15) refl)), tt)

-- `a = uint(8, ~!~);`
unfoldable pub all_taken_out : Rules
all_taken_out = last_rule (rule (name 0 "a") (at 2) (last_branch (last_member (once (field false (lit< tt) (over 4 8) (at 8) (num 9 10 8) (at 10) (last_choice (item_but_item (everything (at 12)) (at 13) (everything (at 14)))) (at 15))))) (at 16))

all_taken_out_read : tokens "a = uint(8, ~!~);" ≡ written all_taken_out 17
unfolding tokens written all_taken_out
all_taken_out_read = refl

all_taken_out_13 : NoValues all_taken_out 4
unfolding seen placed AllValued all_taken_out
all_taken_out_13 = first_empty all_taken_out 0 (refl, λ v l. refl) tt

-- `a = uint(8, ~) & uint(3, var(x, 8~9));`: of a binder too
unfoldable pub empty_binder : Rules
empty_binder = last_rule (rule (name 0 "a") (at 2) (last_branch (and_members (once (field false (lit< tt) (over 4 8) (at 8) (num 9 10 8) (at 10) (last_choice (item (everything (at 12)))) (at 13))) (at 15) (last_member (once (binder false (lit< tt) (over 17 21) (at 21) (num 22 23 3) (at 23) (over 25 28) (at 28) (name 29 "x") (at 30) (last_choice (item (between (sum (product (plain (number (num 32 33 8))) no_factor) no_summand) (at 33) (sum (product (plain (number (num 34 35 9))) no_factor) no_summand)))) (at 35) (at 36)))))) (at 37))

empty_binder_read : tokens "a = uint(8, ~) & uint(3, var(x, 8~9));" ≡ written empty_binder 38
unfolding tokens written empty_binder
empty_binder_read = refl

empty_binder_13 : NoValues empty_binder 17
unfolding seen placed none_among AllValued empty_binder
empty_binder_13 = first_empty empty_binder 2 (refl, none_of _ _ refl) (λ e. e, (λ e. false≢true (sym (e.1 (bits_of 8 0) refl)), tt))

-- `a = uint(4, var(n, ~)) & uint(4, n ! n);`: "One variable … anywhere in the set excuses it"
unfoldable pub excused : Rules
excused = last_rule (rule (name 0 "a") (at 2) (last_branch (and_members (once (binder false (lit< tt) (over 4 8) (at 8) (num 9 10 4) (at 10) (over 12 15) (at 15) (name 16 "n") (at 17) (last_choice (item (everything (at 19)))) (at 20) (at 21))) (at 23) (last_member (once (field false (lit< tt) (over 25 29) (at 29) (num 30 31 4) (at 31) (last_choice (item_but_item (only (sum (product (plain (variable (name 33 "n"))) no_factor) no_summand)) (at 35) (only (sum (product (plain (variable (name 37 "n"))) no_factor) no_summand)))) (at 38)))))) (at 39))

excused_read : tokens "a = uint(4, var(n, ~)) & uint(4, n ! n);" ≡ written excused 40
unfolding tokens written excused
excused_read = refl

excused_13 : (i : ℕ) → IsEmpty excused i → ⊥
unfolding seen AllValued excused
excused_13 = all_valued excused (λ e. e, (λ e. false≢true (sym (e.1 (bits_of 4 0) refl)), (λ e. false≢true (sym e.0), tt)))

-- `a = "x" & sint(8, 128 | -129);`: what is no value of the width drops out
unfoldable pub signed_outside : Rules
signed_outside = last_rule (rule (name 0 "a") (at 2) (last_branch (and_members (once (literal (quote 4 7 "x"))) (at 8) (last_member (once (field true (lit< tt) (over 10 14) (at 14) (num 15 16 8) (at 16) (or_choices (item (only (sum (product (plain (number (num 18 21 128))) no_factor) no_summand))) (at 22) (last_choice (item (only (sum (product (opposite (at 24) (number (num 25 28 129))) no_factor) no_summand))))) (at 28)))))) (at 29))

signed_outside_read : tokens "a = \"x\" & sint(8, 128 | -129);" ≡ written signed_outside 30
unfolding tokens written signed_outside
signed_outside_read = refl

signed_outside_13 : NoValues signed_outside 10
unfolding seen placed none_among AllValued signed_outside
signed_outside_13 = first_empty signed_outside 2 (refl, none_of _ _ refl) (λ e. e, (λ e. e, tt))

-- `a = sint(8, -128) & sint(8, 127);`: the least and the greatest value of the width
unfoldable pub signed_ends : Rules
signed_ends = last_rule (rule (name 0 "a") (at 2) (last_branch (and_members (once (field true (lit< tt) (over 4 8) (at 8) (num 9 10 8) (at 10) (last_choice (item (only (sum (product (opposite (at 12) (number (num 13 16 128))) no_factor) no_summand)))) (at 16))) (at 18) (last_member (once (field true (lit< tt) (over 20 24) (at 24) (num 25 26 8) (at 26) (last_choice (item (only (sum (product (plain (number (num 28 31 127))) no_factor) no_summand)))) (at 31)))))) (at 32))

signed_ends_read : tokens "a = sint(8, -128) & sint(8, 127);" ≡ written signed_ends 33
unfolding tokens written signed_ends
signed_ends_read = refl

signed_ends_13 : (i : ℕ) → IsEmpty signed_ends i → ⊥
unfolding seen AllValued signed_ends
signed_ends_13 = all_valued signed_ends (λ e. e, (λ e. false≢true (sym (e.1 (bits_of 8 128) refl)), (λ e. false≢true (sym (e.1 (bits_of 8 127) refl)), tt)))

-- `a = 'b'~'a';`: "Empty ranges of characters … are admitted"
unfoldable pub empty_range : Rules
unfolding bytes
empty_range = last_rule (rule (name 0 "a") (at 2) (last_branch (last_member (once (range (quote 4 7 "b") (at 7) (quote 8 11 "a") refl refl)))) (at 11))

empty_range_read : tokens "a = 'b'~'a';" ≡ written empty_range 12
unfolding tokens written empty_range
empty_range_read = refl

empty_range_13 : (i : ℕ) → IsEmpty empty_range i → ⊥
unfolding seen AllValued empty_range
empty_range_13 = all_valued empty_range (λ e. e, tt)
