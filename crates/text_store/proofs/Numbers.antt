-- The numbers of the words that `Words` names, for laws of all words of an entry.
-- Assumes nothing.
use Prim.Native.Nat.{ℕ}

-- ---- of a node

abbrev pub at_kind : ℕ
at_kind = 0

abbrev pub at_size : ℕ
at_size = 1

abbrev pub at_place : ℕ
at_place = 2

abbrev pub at_mark : ℕ
at_mark = 3

abbrev pub at_last_place : ℕ
at_last_place = 3

abbrev pub at_width_place : ℕ
at_width_place = 3

abbrev pub at_second_place : ℕ
at_second_place = 4

abbrev pub at_bound : ℕ
at_bound = 4

abbrev pub at_own_from : ℕ
at_own_from = 5

abbrev pub at_own_end : ℕ
at_own_end = 6

abbrev pub at_how_bound : ℕ
at_how_bound = 7

abbrev pub at_condition_from : ℕ
at_condition_from = 8

abbrev pub at_condition_end : ℕ
at_condition_end = 9

-- ---- of a term

abbrev pub at_tag : ℕ
at_tag = 0

abbrev pub at_value : ℕ
at_value = 1

abbrev pub at_term : ℕ
at_term = 2

abbrev pub at_origin : ℕ
at_origin = 3

-- ---- of a rule

abbrev pub at_name : ℕ
at_name = 0

abbrev pub at_first_node : ℕ
at_first_node = 1

abbrev pub at_last_node : ℕ
at_last_node = 2

abbrev pub at_terms : ℕ
at_terms = 3

abbrev pub at_binders : ℕ
at_binders = 4
