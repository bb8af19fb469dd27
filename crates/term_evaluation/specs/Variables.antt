-- Which lists of terms have a variable: "a set with a variable counting as `~`", "counts with a variable allowing all".
-- Assumes nothing.
use Rattle.std.specs.Prelude.{Bool, true, false, cond, List, [], ◌∷◌}
use Rattle.term_words.specs.declared.Operation.{Operation}
use Rattle.term_words.specs.declared.Term.{Term}

-- a part of a calculation that is a variable's use
abbrev pub is_use : Operation → Bool
is_use (Operation.Number n) = false
is_use (Operation.Variable k) = true
is_use Operation.Add = false
is_use Operation.Subtract = false
is_use Operation.Multiply = false
is_use Operation.Negate = false
is_use Operation.Unknown = false

-- a term that is one; an item `a` of a set may be one too
abbrev pub uses_variable : Term → Bool
uses_variable (Term.Part o) = is_use o
uses_variable (Term.Single o) = is_use o
uses_variable Term.All = false
uses_variable Term.Range = false
uses_variable Term.From = false
uses_variable Term.UpTo = false
uses_variable Term.Or = false
uses_variable Term.Except = false
uses_variable Term.And = false
uses_variable (Term.Compare k) = false
uses_variable Term.Bad = false

-- one variable anywhere is enough
unfoldable pub has_variable : List Term → Bool
has_variable [] = false
has_variable (x ∷ xs) = cond (uses_variable x) true (has_variable xs)
