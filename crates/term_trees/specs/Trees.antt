-- Calculations, sets and conditions as document 01 writes them, and what they mean.
-- Assumes nothing.
use Rattle.std.specs.Prelude.{ℕ, Bool, true, false, cond, List, ℤ, pos, neg_ℤ, ◌+ℤ◌, ◌-ℤ◌, ◌*ℤ◌, get_or}
use Rattle.std.specs.Int.Signed.{le_z}
use Rattle.basis.specs.Counts.{Counts, exactly, at_least, span}
use Rattle.term_words.specs.Numbers.{equals}
use Rattle.term_words.specs.Steps.{compares}
use Rattle.term_words.specs.declared.Comparison.{Comparison}

-- "`+ -` from the left, then `*`, then at most one unary minus"
pub data Calculation : Type 0 where
  literal : ℕ → Calculation
  use_of : ℕ → Calculation
  plus : Calculation → Calculation → Calculation
  minus : Calculation → Calculation → Calculation
  times : Calculation → Calculation → Calculation
  opposite : Calculation → Calculation

-- "exact whole numbers that may go below zero", at the values of the variables
unfoldable pub value : List ℤ → Calculation → ℤ
value env (literal n) = pos n
value env (use_of k) = get_or env k (pos 0)
value env (plus a b) = value env a +ℤ value env b
value env (minus a b) = value env a -ℤ value env b
value env (times a b) = value env a *ℤ value env b
value env (opposite a) = neg_ℤ (value env a)

-- "alternatives of `~`, `a`, `a~b`, `a~`, `~b`, each with at most one `!` and a second item or a set in parentheses after it"
pub data ValueSet : Type 0 where
  everything : ValueSet
  only : Calculation → ValueSet
  between : Calculation → Calculation → ValueSet
  from : Calculation → ValueSet
  up_to : Calculation → ValueSet
  either : ValueSet → ValueSet → ValueSet
  without : ValueSet → ValueSet → ValueSet

-- v is in the set
unfoldable pub has : List ℤ → ValueSet → ℤ → Bool
has env everything v = true
has env (only a) v = equals (value env a) v
has env (between a b) v = cond (le_z (value env a) v) (le_z v (value env b)) false
has env (from a) v = le_z (value env a) v
has env (up_to b) v = le_z v (value env b)
has env (either x y) v = cond (has env x v) true (has env y v)
has env (without x y) v = cond (has env y v) false (has env x v)

-- "comparisons (`= != < <= > >=`) joined all by `&` or all by `|`"
pub data Condition : Type 0 where
  compare : Comparison → Calculation → Calculation → Condition
  both : Condition → Condition → Condition
  any : Condition → Condition → Condition

-- whether a condition holds, at the values of the variables
unfoldable pub true_at : List ℤ → Condition → Bool
true_at env (compare k a b) = compares k (value env a) (value env b)
true_at env (both x y) = cond (true_at env x) (true_at env y) false
true_at env (any x y) = cond (true_at env x) true (true_at env y)

-- the counts of a repetition: `{n}`, `{a~}`, `{~b}` or `{a~b}`
pub data Repeats : Type 0 where
  exact : Calculation → Repeats
  on_from : Calculation → Repeats
  up_to_bound : Calculation → Repeats
  spanning : Calculation → Calculation → Repeats

-- "a set of whole numbers from 0", at the values of the variables
unfoldable pub repeats : List ℤ → Repeats → Counts
repeats env (exact n) = exactly (value env n)
repeats env (on_from a) = at_least (value env a)
repeats env (up_to_bound b) = span (pos 0) (value env b)
repeats env (spanning a b) = span (value env a) (value env b)
