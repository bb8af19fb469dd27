-- Lists of terms as they are read: each is a set, counts or a condition. A variable's use has the place of its name for its number, until names
-- are resolved.
-- Assumes nothing.
use Rattle.std.specs.Prelude.{ℕ, zero, suc, ◌+◌, ◌-◌, ◌<◌, ◌≡◌, cond, List, [], ◌∷◌}
use Rattle.basis.specs.Limits.{max_rules, max_variables}
use Rattle.text_store.specs.Words.{term_tag, term_value, stored_term_at, is_use}
use Rattle.term_words.specs.Words.{term_of}
use Rattle.term_words.specs.declared.Operation.{Operation}
use Rattle.term_words.specs.declared.Term.{Term}
use Rattle.term_trees.specs.Trees.{Calculation, literal, use_of, plus, minus, times, opposite, ValueSet, everything, only, between, from, up_to, either, without, Condition, compare, both, any, Repeats, exact, on_from, up_to_bound, spanning}
use Rattle.term_trees.specs.Postfix.{set_terms, condition_terms, repeat_terms}
use Rattle.term_trees.specs.Rooms.{Room, SetRoom, ConditionRoom}

-- term k of those read
abbrev pub read_term : List ℕ → ℕ → Term
read_term ts k = term_of (term_tag ts k) (cond (is_use (term_tag ts k)) (stored_term_at ts k) (term_value ts k)) 0

-- n terms from term k on
unfoldable pub read_terms : List ℕ → ℕ → ℕ → List Term
read_terms ts k zero = []
read_terms ts k (suc n) = read_term ts k ∷ read_terms ts (k + 1) n

-- ---- variables under other numbers

-- in a part of a calculation
abbrev pub rename_operation : (ℕ → ℕ) → Operation → Operation
rename_operation g (Operation.Number n) = Operation.Number n
rename_operation g (Operation.Variable k) = Operation.Variable (g k)
rename_operation g Operation.Add = Operation.Add
rename_operation g Operation.Subtract = Operation.Subtract
rename_operation g Operation.Multiply = Operation.Multiply
rename_operation g Operation.Negate = Operation.Negate
rename_operation g Operation.Unknown = Operation.Unknown

-- in a term
abbrev pub rename_term : (ℕ → ℕ) → Term → Term
rename_term g (Term.Part o) = Term.Part (rename_operation g o)
rename_term g (Term.Single o) = Term.Single (rename_operation g o)
rename_term g Term.All = Term.All
rename_term g Term.Range = Term.Range
rename_term g Term.From = Term.From
rename_term g Term.UpTo = Term.UpTo
rename_term g Term.Or = Term.Or
rename_term g Term.Except = Term.Except
rename_term g Term.And = Term.And
rename_term g (Term.Compare k) = Term.Compare k
rename_term g Term.Bad = Term.Bad

-- in a calculation
unfoldable pub renamed : (ℕ → ℕ) → Calculation → Calculation
renamed g (literal n) = literal n
renamed g (use_of k) = use_of (g k)
renamed g (plus a b) = plus (renamed g a) (renamed g b)
renamed g (minus a b) = minus (renamed g a) (renamed g b)
renamed g (times a b) = times (renamed g a) (renamed g b)
renamed g (opposite a) = opposite (renamed g a)

-- in a set
unfoldable pub renamed_set : (ℕ → ℕ) → ValueSet → ValueSet
renamed_set g everything = everything
renamed_set g (only a) = only (renamed g a)
renamed_set g (between a b) = between (renamed g a) (renamed g b)
renamed_set g (from a) = from (renamed g a)
renamed_set g (up_to b) = up_to (renamed g b)
renamed_set g (either x y) = either (renamed_set g x) (renamed_set g y)
renamed_set g (without x y) = without (renamed_set g x) (renamed_set g y)

-- in a condition
unfoldable pub renamed_condition : (ℕ → ℕ) → Condition → Condition
renamed_condition g (compare k a b) = compare k (renamed g a) (renamed g b)
renamed_condition g (both x y) = both (renamed_condition g x) (renamed_condition g y)
renamed_condition g (any x y) = any (renamed_condition g x) (renamed_condition g y)

-- in counts
unfoldable pub renamed_repeats : (ℕ → ℕ) → Repeats → Repeats
renamed_repeats g (exact n) = exact (renamed g n)
renamed_repeats g (on_from a) = on_from (renamed g a)
renamed_repeats g (up_to_bound b) = up_to_bound (renamed g b)
renamed_repeats g (spanning a b) = spanning (renamed g a) (renamed g b)

-- each calculation of counts has room
abbrev pub RepeatsRoom : ℕ → Repeats → Type 0
RepeatsRoom vars (exact n) = Room vars n 0
RepeatsRoom vars (on_from a) = Room vars a 0
RepeatsRoom vars (up_to_bound b) = Room vars b 0
RepeatsRoom vars (spanning a b) = Room vars a 0 × Room vars b 1

-- ---- what the terms from f up to e are

-- a set, which has room whichever variables its names are
pub record SetShape (ts : List ℕ) (f e : ℕ) : Type 0 where
  pub some : f < e
  pub tree : ValueSet
  pub is : read_terms ts f (e - f) ≡ set_terms tree
  pub room : (g : ℕ → ℕ) → ((k : ℕ) → g k < max_rules) → SetRoom max_variables (renamed_set g tree) 0

-- a condition, likewise
pub record ConditionShape (ts : List ℕ) (f e : ℕ) : Type 0 where
  pub some : f < e
  pub tree : Condition
  pub is : read_terms ts f (e - f) ≡ condition_terms tree
  pub room : (g : ℕ → ℕ) → ((k : ℕ) → g k < max_rules) → ConditionRoom max_variables (renamed_condition g tree) 0

-- counts, likewise
pub record CountsShape (ts : List ℕ) (f e : ℕ) : Type 0 where
  pub some : f < e
  pub tree : Repeats
  pub is : read_terms ts f (e - f) ≡ repeat_terms tree
  pub room : (g : ℕ → ℕ) → ((k : ℕ) → g k < max_rules) → RepeatsRoom max_variables (renamed_repeats g tree)
