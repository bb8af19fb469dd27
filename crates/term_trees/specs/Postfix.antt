-- The list of terms that holds a calculation, a set or a condition: each sign stands after what it joins.
-- Assumes nothing.
use Rattle.std.specs.Prelude.{List, [], ◌∷◌, ◌++◌}
use Rattle.term_words.specs.declared.Operation.{Operation}
use Rattle.term_words.specs.declared.Term.{Term}
use Rattle.term_trees.specs.Trees.{Calculation, literal, use_of, plus, minus, times, opposite, ValueSet, everything, only, between, from, up_to, either, without, Condition, compare, both, any, Repeats, exact, on_from, up_to_bound, spanning}

-- the last term of a calculation
abbrev pub last_sign : Calculation → Operation
last_sign (literal n) = Operation.Number n
last_sign (use_of k) = Operation.Variable k
last_sign (plus a b) = Operation.Add
last_sign (minus a b) = Operation.Subtract
last_sign (times a b) = Operation.Multiply
last_sign (opposite a) = Operation.Negate

-- the terms before it
unfoldable pub before : Calculation → List Term
before (literal n) = []
before (use_of k) = []
before (plus a b) = (before a ++ (Term.Part (last_sign a) ∷ [])) ++ (before b ++ (Term.Part (last_sign b) ∷ []))
before (minus a b) = (before a ++ (Term.Part (last_sign a) ∷ [])) ++ (before b ++ (Term.Part (last_sign b) ∷ []))
before (times a b) = (before a ++ (Term.Part (last_sign a) ∷ [])) ++ (before b ++ (Term.Part (last_sign b) ∷ []))
before (opposite a) = before a ++ (Term.Part (last_sign a) ∷ [])

-- a calculation, inside `a~b`, counts or a comparison
abbrev pub calculation_terms : Calculation → List Term
calculation_terms c = before c ++ (Term.Part (last_sign c) ∷ [])

-- a set; where a calculation is an item `a`, its last term says so
unfoldable pub set_terms : ValueSet → List Term
set_terms everything = Term.All ∷ []
set_terms (only a) = before a ++ (Term.Single (last_sign a) ∷ [])
set_terms (between a b) = (calculation_terms a ++ calculation_terms b) ++ (Term.Range ∷ [])
set_terms (from a) = calculation_terms a ++ (Term.From ∷ [])
set_terms (up_to b) = calculation_terms b ++ (Term.UpTo ∷ [])
set_terms (either x y) = (set_terms x ++ set_terms y) ++ (Term.Or ∷ [])
set_terms (without x y) = (set_terms x ++ set_terms y) ++ (Term.Except ∷ [])

-- a condition
unfoldable pub condition_terms : Condition → List Term
condition_terms (compare k a b) = (calculation_terms a ++ calculation_terms b) ++ (Term.Compare k ∷ [])
condition_terms (both x y) = (condition_terms x ++ condition_terms y) ++ (Term.And ∷ [])
condition_terms (any x y) = (condition_terms x ++ condition_terms y) ++ (Term.Or ∷ [])

-- the counts of a repetition
unfoldable pub repeat_terms : Repeats → List Term
repeat_terms (exact n) = calculation_terms n
repeat_terms (on_from a) = calculation_terms a ++ (Term.From ∷ [])
repeat_terms (up_to_bound b) = calculation_terms b ++ (Term.UpTo ∷ [])
repeat_terms (spanning a b) = (calculation_terms a ++ calculation_terms b) ++ (Term.Range ∷ [])
