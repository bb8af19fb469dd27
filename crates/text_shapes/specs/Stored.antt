-- What every node and every term that is stored has, whichever phrase it is of.
-- Assumes nothing.
use Rattle.std.specs.Prelude.{ℕ, ◌^◌, ◌<◌, ◌≡◌, ◌⊎◌, false, List}
use Rattle.basis.specs.Limits.{max_constructs, max_terms}
use Rattle.text_store.specs.Words.{kind_of, node_mark, own_from, own_end, term_tag, term_value, stored_term_at, is_use}
use Rattle.text_shapes.specs.NodeShapes.{NameAt}

-- a uint and counts in braces have a list of terms of their own, all others none
pub data OwnList (ns : List ℕ) (j : ℕ) : Type 0 where
  of_field : kind_of ns j ≡ 8 → OwnList ns j
  of_counts : kind_of ns j ≡ 3 → node_mark ns j ≡ 4 → OwnList ns j
  no_list : own_from ns j ≡ 0 → own_end ns j ≡ 0 → OwnList ns j

-- a number has a value (2^62 + 1 stands for all that is more), a variable's use the place of a name, and a sign neither
pub data TermWords (xs ts : List ℕ) (t : ℕ) : Type 0 where
  a_number : (term_tag ts t ≡ 1) ⊎ (term_tag ts t ≡ 33) → term_value ts t < 2 ^ 63 → TermWords xs ts t
  a_use : (term_tag ts t ≡ 2) ⊎ (term_tag ts t ≡ 34) → term_value ts t ≡ 0 → NameAt xs (stored_term_at ts t) → TermWords xs ts t
  a_sign : is_use (term_tag ts t) ≡ false → term_tag ts t < 64 → term_value ts t ≡ 0 → TermWords xs ts t

-- 256 nodes and 1,024 terms have room
pub record Stored (xs ns ts : List ℕ) : Type 0 where
  pub lists : (j : ℕ) → j < max_constructs → OwnList ns j
  pub terms : (t : ℕ) → t < max_terms → TermWords xs ts t
