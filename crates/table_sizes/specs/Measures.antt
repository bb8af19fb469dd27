-- Refusal 8 over a table's words: "a calculation, or part of one, whose size may pass 2^62 (variables at their widest, sizes added and
-- multiplied)".
-- Assumes nothing.
use Rattle.std.specs.Prelude.{ℕ, zero, suc, ◌+◌, ◌≤◌, ◌<◌, min, Bool, true, false, cond, ◌||◌, List, [], ◌∷◌, ltb, ℤ, pos, Result, Ok, Err, ⊤}
use Rattle.basis.specs.Limits.{max_variables, max_bound_width}
use Rattle.basis.specs.Patterns.{greatest_size}
use Rattle.term_words.specs.declared.Kind.{Kind}
use Rattle.term_sizes.specs.Sizes.{sizes, count_sizes}
use Rattle.table_layout.specs.Places.{variable_word, construct_word}
use Rattle.table_layout.specs.Constructs.{construct_at}
use Rattle.table_layout.specs.Attributes.{attributes_of}
use Rattle.table_layout.specs.Held.{term_words, terms_of}
use Rattle.table_layout.specs.declared.Construct.{Construct}
use Rattle.table_layout.specs.declared.OwnList.{OwnList}
use Rattle.term_sizes.specs.declared.SizeError.{SizeError}

-- "variables at their widest": of a width within the limit, signed where the word for it is not 0
abbrev pub largest : ℕ → ℕ → ℤ
largest width sign = pos (greatest_size (ltb 0 sign) (min max_bound_width width))

-- n variables from x on
unfoldable pub widest_from : ℕ → List ℕ → ℕ → List ℤ
widest_from zero ws x = []
widest_from (suc n) ws x = largest (variable_word ws x 1) (variable_word ws x 2) ∷ widest_from n ws (x + 1)

-- every variable
abbrev pub widest : List ℕ → List ℤ
widest ws = widest_from max_variables ws 0

-- the sizes in a construct's condition, where it has one
abbrev pub condition_size : List ℕ → ℕ → Result ⊤ SizeError
condition_size ws i =
    cond (ltb (construct_word ws i 6) (construct_word ws i 7))
    (sizes Kind.Condition (widest ws) (construct_word ws i 6) (terms_of ws (construct_word ws i 6) (construct_word ws i 7)))
    (Ok tt)

-- the sizes in a list of terms: the counts of `{…}`, the set of a uint; where there is none, there is no calculation
abbrev pub list_size : List ℕ → OwnList → Result ⊤ SizeError
list_size ws OwnList.None = Ok tt
list_size ws (OwnList.Counts start end) = count_sizes (widest ws) (term_words ws) start end
list_size ws (OwnList.Set start end) = sizes Kind.Set (widest ws) start (terms_of ws start end)

-- the sizes in a construct's own list
abbrev pub own_size : List ℕ → Construct → Result ⊤ SizeError
own_size ws c = list_size ws (attributes_of c).own

-- a calculation "whose size may pass 2^62"
abbrev pub exceeds : Result ⊤ SizeError → Bool
exceeds (Ok u) = false
exceeds (Err SizeError.Malformed) = false
exceeds (Err (SizeError.Exceeds at)) = true

-- construct i has a calculation whose size may pass 2^62
abbrev pub oversized : List ℕ → ℕ → Bool
oversized ws i = exceeds (condition_size ws i) || exceeds (own_size ws (construct_at ws i))

-- the least of n numbers with the property; n where none has it
pub record LeastOf (P : ℕ → Type 0) (n r : ℕ) : Type 0 where
  pub most : r ≤ n
  pub holds : r < n → P r
  pub before : (j : ℕ) → j < r → P j → ⊥
