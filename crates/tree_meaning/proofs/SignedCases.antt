-- Signed fields, and fields wider than the numbers that are written (Req 10).
-- Assumes nothing.
use mathlib.Core.Path.{◌≡◌, refl}
use mathlib.Core.Bool.{true, false}
use mathlib.Core.List.{[], ◌∷◌}
use lib.Dec.{lit<}
use lib.IntN.{pos, negsuc}
use Rattle.tree.specs.Tree.{number, plain, opposite, no_factor, product, no_summand, sum, everything, between, from, up_to_bound, item, item_but_item, last_choice, field, binder, once, last_member, last_branch, rule, Rules, last_rule}
use Rattle.tree_meaning.proofs.Building.{at, over, name, num}
use Rattle.tree_meaning.proofs.Computing.{tokens, written, takes, seen, admitted}

-- `a = sint(4, -3~2);`: "in two's complement": of the 16 patterns, those of 0, 1, 2 and of -3, -2, -1
unfoldable pub signed : Rules
signed = last_rule (rule (name 0 "a") (at 2) (last_branch (last_member (once (field true (lit< tt) (over 4 8) (at 8) (num 9 10 4) (at 10) (last_choice (item (between (sum (product (opposite (at 12) (number (num 13 14 3))) no_factor) no_summand) (at 14) (sum (product (plain (number (num 15 16 2))) no_factor) no_summand)))) (at 16))))) (at 17))

signed_read : tokens "a = sint(4, -3~2);" ≡ written signed 18
unfolding tokens written signed
signed_read = refl

signed_admits : admitted signed [] 4 (0 ∷ 1 ∷ 2 ∷ 3 ∷ 4 ∷ 5 ∷ 6 ∷ 7 ∷ 8 ∷ 9 ∷ 10 ∷ 11 ∷ 12 ∷ 13 ∷ 14 ∷ 15 ∷ []) ≡ true ∷ true ∷ true ∷ false ∷ false ∷ false ∷ false ∷ false ∷ false ∷ false ∷ false ∷ false ∷ false ∷ true ∷ true ∷ true ∷ []
unfolding admitted signed
signed_admits = refl

-- and so where no values are known, for its first windows
signed_first : seen signed [] 4 13 ≡ takes 4 true true [] ∷ []
unfolding seen signed
signed_first = refl

signed_first_not : seen signed [] 4 8 ≡ takes 4 false false [] ∷ []
unfolding seen signed
signed_first_not = refl

-- `a = sint(4, ~-7);`: open to the least value of the width
unfoldable pub at_least_signed : Rules
at_least_signed = last_rule (rule (name 0 "a") (at 2) (last_branch (last_member (once (field true (lit< tt) (over 4 8) (at 8) (num 9 10 4) (at 10) (last_choice (item (up_to_bound (at 12) (sum (product (opposite (at 13) (number (num 14 15 7))) no_factor) no_summand)))) (at 15))))) (at 16))

at_least_signed_read : tokens "a = sint(4, ~-7);" ≡ written at_least_signed 17
unfolding tokens written at_least_signed
at_least_signed_read = refl

at_least_signed_admits : admitted at_least_signed [] 4 (7 ∷ 8 ∷ 9 ∷ 10 ∷ []) ≡ false ∷ true ∷ true ∷ false ∷ []
unfolding admitted at_least_signed
at_least_signed_admits = refl

-- `a = sint(1, var(x, ~));`: of one bit, 0 and -1: "its value bound with its sign"
unfoldable pub one_bit : Rules
one_bit = last_rule (rule (name 0 "a") (at 2) (last_branch (last_member (once (binder true (lit< tt) (over 4 8) (at 8) (num 9 10 1) (at 10) (over 12 15) (at 15) (name 16 "x") (at 17) (last_choice (item (everything (at 19)))) (at 20) (at 21))))) (at 22))

one_bit_read : tokens "a = sint(1, var(x, ~));" ≡ written one_bit 23
unfolding tokens written one_bit
one_bit_read = refl

one_bit_0 : seen one_bit (pos 7 ∷ []) 1 0 ≡ takes 1 true true (pos 0 ∷ []) ∷ []
unfolding seen one_bit
one_bit_0 = refl

one_bit_1 : seen one_bit (pos 7 ∷ []) 1 1 ≡ takes 1 true true (negsuc 0 ∷ []) ∷ []
unfolding seen one_bit
one_bit_1 = refl

-- `a = sint(8, var(x, ~));`: the ends of the range, and -1
unfoldable pub signed_bound : Rules
signed_bound = last_rule (rule (name 0 "a") (at 2) (last_branch (last_member (once (binder true (lit< tt) (over 4 8) (at 8) (num 9 10 8) (at 10) (over 12 15) (at 15) (name 16 "x") (at 17) (last_choice (item (everything (at 19)))) (at 20) (at 21))))) (at 22))

signed_bound_read : tokens "a = sint(8, var(x, ~));" ≡ written signed_bound 23
unfolding tokens written signed_bound
signed_bound_read = refl

signed_bound_least : seen signed_bound (pos 7 ∷ []) 8 128 ≡ takes 8 true true (negsuc 127 ∷ []) ∷ []
unfolding seen signed_bound
signed_bound_least = refl

signed_bound_greatest : seen signed_bound (pos 7 ∷ []) 8 127 ≡ takes 8 true true (pos 127 ∷ []) ∷ []
unfolding seen signed_bound
signed_bound_greatest = refl

signed_bound_last : seen signed_bound (pos 7 ∷ []) 8 255 ≡ takes 8 true true (negsuc 0 ∷ []) ∷ []
unfolding seen signed_bound
signed_bound_last = refl

-- `a = uint(64, ~!0~4611686018427387904);`: "values past 2^62 are met by open ends and taken out by `!`, not named"
unfoldable pub past_written : Rules
past_written = last_rule (rule (name 0 "a") (at 2) (last_branch (last_member (once (field false (lit< tt) (over 4 8) (at 8) (num 9 11 64) (at 11) (last_choice (item_but_item (everything (at 13)) (at 14) (between (sum (product (plain (number (num 15 16 0))) no_factor) no_summand) (at 16) (sum (product (plain (number (num 17 36 4611686018427387904))) no_factor) no_summand)))) (at 36))))) (at 37))

past_written_read : tokens "a = uint(64, ~!0~4611686018427387904);" ≡ written past_written 38
unfolding tokens written past_written
past_written_read = refl

past_written_admits : admitted past_written [] 64 (4611686018427387904 ∷ 4611686018427387905 ∷ 18446744073709551615 ∷ []) ≡ false ∷ true ∷ true ∷ []
unfolding admitted past_written
past_written_admits = refl

-- `a = uint(64, 4611686018427387904~);`
unfoldable pub open_end : Rules
open_end = last_rule (rule (name 0 "a") (at 2) (last_branch (last_member (once (field false (lit< tt) (over 4 8) (at 8) (num 9 11 64) (at 11) (last_choice (item (from (sum (product (plain (number (num 13 32 4611686018427387904))) no_factor) no_summand) (at 32)))) (at 33))))) (at 34))

open_end_read : tokens "a = uint(64, 4611686018427387904~);" ≡ written open_end 35
unfolding tokens written open_end
open_end_read = refl

open_end_admits : admitted open_end [] 64 (4611686018427387903 ∷ 4611686018427387904 ∷ 18446744073709551615 ∷ []) ≡ false ∷ true ∷ true ∷ []
unfolding admitted open_end
open_end_admits = refl

-- `a = sint(64, ~-4611686018427387904);`: values below -2^62 too
unfoldable pub signed_open : Rules
signed_open = last_rule (rule (name 0 "a") (at 2) (last_branch (last_member (once (field true (lit< tt) (over 4 8) (at 8) (num 9 11 64) (at 11) (last_choice (item (up_to_bound (at 13) (sum (product (opposite (at 14) (number (num 15 34 4611686018427387904))) no_factor) no_summand)))) (at 34))))) (at 35))

signed_open_read : tokens "a = sint(64, ~-4611686018427387904);" ≡ written signed_open 36
unfolding tokens written signed_open
signed_open_read = refl

signed_open_admits : admitted signed_open [] 64 (9223372036854775808 ∷ 13835058055282163712 ∷ 13835058055282163713 ∷ 0 ∷ []) ≡ true ∷ true ∷ false ∷ false ∷ []
unfolding admitted signed_open
signed_open_admits = refl
