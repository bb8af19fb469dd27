-- Refusal 8: "number or width outside its limits, or a calculation, or part of one, whose size may pass 2^62 (variables at their widest, sizes
-- added and multiplied)", at the "number or calculation". Each has a place, and the least is the refusal's.
-- Assumes nothing.
use Rattle.std.specs.Prelude.{ℕ, zero, suc, ◌+◌, ◌-◌, min, Bool, cond, not, ◌&&◌, List, leb, eqb, Result, Ok, Err, ⊤}
use Rattle.basis.specs.Limits.{max_width, max_bound_width}
use Rattle.table_layout.specs.Constructs.{construct_at}
use Rattle.table_sizes.specs.Measures.{condition_size, own_size}
use Rattle.text_store.specs.Words.{kind_of, width_place, own_from, condition_from, is_binder, term_origin}
use Rattle.text_encoding.specs.Numbers.{width_of, condition_start, own_start}
use Rattle.text_admission.specs.declared.Found.{Found}
use Rattle.term_sizes.specs.declared.SizeError.{SizeError}

-- the lesser of two places, where there are any
abbrev pub lesser : Found → Found → Found
lesser Found.Nothing y = y
lesser (Found.At p) Found.Nothing = Found.At p
lesser (Found.At p) (Found.At q) = Found.At (min p q)

-- a place, where there is a fault
abbrev pub found_if : Bool → ℕ → Found
found_if fault p = cond fault (Found.At p) Found.Nothing

-- the least of n from number i on
unfoldable pub least_found : ℕ → ℕ → (ℕ → Found) → Found
least_found zero i f = Found.Nothing
least_found (suc n) i f = lesser (f i) (least_found n (i + 1) f)

-- "Widths go to 64", of a binder to 62 (Req 10)
abbrev pub most_of : List ℕ → ℕ → ℕ
most_of ns i = cond (is_binder ns i) max_bound_width max_width

abbrev pub width_found : List ℕ → List ℕ → ℕ → Found
width_found xs ns i = found_if (eqb (kind_of ns i) 8 && not (leb 1 (width_of xs ns i) && leb (width_of xs ns i) (most_of ns i))) (width_place ns i)

-- the first byte of the calculation that the table's term `at` is in, of a list that is read from term f on and is the table's from `start`
abbrev pub origin_after : List ℕ → ℕ → ℕ → ℕ → ℕ
origin_after ts f at start = term_origin ts (f + (at - start))

-- a list that is read from term f on and is the table's from term `start`: the first byte of the calculation that passes 2^62
abbrev pub list_found : List ℕ → ℕ → ℕ → Result ⊤ SizeError → Found
list_found ts f start (Ok u) = Found.Nothing
list_found ts f start (Err SizeError.Malformed) = Found.Nothing
list_found ts f start (Err (SizeError.Exceeds at)) = Found.At (origin_after ts f at start)

-- node i: its width, its condition, and its own list
abbrev pub node_found : (xs ns ts ws : List ℕ) → ℕ → Found
node_found xs ns ts ws i =
    lesser (width_found xs ns i)
    (lesser (list_found ts (condition_from ns i) (condition_start ns i) (condition_size ws i)) (list_found ts (own_from ns i) (own_start ns i) (own_size ws (construct_at ws i))))

-- n nodes, encoded as the words ws. A number past 2^62 is a calculation that passes it.
abbrev pub refusal_8 : (xs ns ts ws : List ℕ) → (n : ℕ) → Found
refusal_8 xs ns ts ws n = least_found n 0 (node_found xs ns ts ws)
