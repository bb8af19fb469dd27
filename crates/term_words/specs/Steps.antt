-- What one term does to the numbers and tests that wait.
-- Assumes nothing.
use Rattle.std.specs.Prelude.{ℕ, Bool, true, false, cond, not, List, ltb, length, get_or, ℤ, pos, ◌+ℤ◌, ◌*ℤ◌, Option, Some, None, Result, Ok, Err}
use Rattle.std.specs.Int.Signed.{le_z}
use Rattle.term_words.specs.Numbers.{bounded, equals, difference_of, opposite_of, kept, top_of, pair_of}
use Rattle.term_words.specs.Tests.{noted, combined}
use Rattle.term_words.specs.declared.Comparison.{Comparison}
use Rattle.term_words.specs.declared.Joint.{Joint}
use Rattle.term_words.specs.declared.Kind.{Kind}
use Rattle.term_words.specs.declared.Mode.{Mode}
use Rattle.term_words.specs.declared.Numbers.{Numbers}
use Rattle.term_words.specs.declared.Operation.{Operation}
use Rattle.term_words.specs.declared.Term.{Term}
use Rattle.term_words.specs.declared.TermError.{TermError}

-- ---- calculations: "`+ -` from the left, then `*`, then at most one unary minus ...; exact whole numbers that may go below zero"

-- a variable's use: its value, which is in bounds too
unfoldable pub variable_of : List ℤ → ℕ → Numbers → Result Numbers TermError
variable_of env k s = cond (ltb k (length env)) (kept s (bounded (get_or env k (pos 0)))) (Err TermError.Malformed)

-- a sign of two numbers
abbrev pub binary : (ℤ → ℤ → ℤ) → Option (Numbers × ℤ × ℤ) → Result Numbers TermError
binary f (Some (rest, a, b)) = kept rest (bounded (f a b))
binary f None = Err TermError.Malformed

-- a sign of one
abbrev pub unary : (ℤ → ℤ) → Option (Numbers × ℤ) → Result Numbers TermError
unary f (Some (rest, a)) = kept rest (bounded (f a))
unary f None = Err TermError.Malformed

-- a part of a calculation: a number, a variable's use or a sign
abbrev pub operate_of : Mode → List ℤ → Operation → Numbers → Result Numbers TermError
operate_of m env (Operation.Number n) s = kept s (bounded (pos n))
operate_of m env (Operation.Variable k) s = variable_of env k s
operate_of m env Operation.Add s = binary ◌+ℤ◌ (pair_of s)
operate_of m env Operation.Subtract s = binary (difference_of m) (pair_of s)
operate_of m env Operation.Multiply s = binary ◌*ℤ◌ (pair_of s)
operate_of m env Operation.Negate s = unary (opposite_of m) (top_of s)
operate_of m env Operation.Unknown s = Err TermError.Malformed

-- the tests that wait are left as they are
abbrev pub after_of : Result Numbers TermError → ℕ → Result (Numbers × ℕ) TermError
after_of (Ok s) t = Ok (s, t)
after_of (Err e) t = Err e

-- ---- sets, on a value v: "alternatives of `~`, `a`, `a~b`, `a~`, `~b`, each with at most one `!` and a second item or a set"

-- a test of the last number
abbrev pub test_top : (ℤ → Bool) → Option (Numbers × ℤ) → ℕ → Result (Numbers × ℕ) TermError
test_top p (Some (rest, a)) t = noted rest t (p a)
test_top p None t = Err TermError.Malformed

-- or of the last two
abbrev pub test_pair : (ℤ → ℤ → Bool) → Option (Numbers × ℤ × ℤ) → ℕ → Result (Numbers × ℕ) TermError
test_pair p (Some (rest, a, b)) t = noted rest t (p a b)
test_pair p None t = Err TermError.Malformed

-- `a`
abbrev pub equal_to : ℤ → Option (Numbers × ℤ) → ℕ → Result (Numbers × ℕ) TermError
equal_to v = test_top (λ a. equals a v)

-- `a~b`
abbrev pub within : ℤ → Option (Numbers × ℤ × ℤ) → ℕ → Result (Numbers × ℕ) TermError
within v = test_pair (λ a b. cond (le_z a v) (le_z v b) false)

-- `a~`
abbrev pub from : ℤ → Option (Numbers × ℤ) → ℕ → Result (Numbers × ℕ) TermError
from v = test_top (λ a. le_z a v)

-- `~b`
abbrev pub up_to : ℤ → Option (Numbers × ℤ) → ℕ → Result (Numbers × ℕ) TermError
up_to v = test_top (λ b. le_z v b)

-- an item `a` tests the calculation that it ends
abbrev pub operated : ℤ → Result Numbers TermError → ℕ → Result (Numbers × ℕ) TermError
operated v (Ok s) t = equal_to v (top_of s) t
operated v (Err e) t = Err e

-- ---- conditions: "comparisons (`= != < <= > >=`) joined all by `&` or all by `|`"

-- what each comparison says of two numbers
abbrev pub compares : Comparison → ℤ → ℤ → Bool
compares Comparison.Equal a b = equals a b
compares Comparison.Unequal a b = not (equals a b)
compares Comparison.Less a b = not (le_z b a)
compares Comparison.AtMost a b = le_z a b
compares Comparison.Greater a b = not (le_z a b)
compares Comparison.AtLeast a b = le_z b a

-- of the last two numbers that wait
abbrev pub compared : Comparison → Option (Numbers × ℤ × ℤ) → ℕ → Result (Numbers × ℕ) TermError
compared k = test_pair (compares k)

-- ---- a term of each kind of list; any other term cannot stand there

-- in a calculation
abbrev pub calculation_step : Mode → List ℤ → Term → Numbers → ℕ → Result (Numbers × ℕ) TermError
calculation_step m env (Term.Part o) s t = after_of (operate_of m env o s) t
calculation_step m env (Term.Single o) s t = Err TermError.Malformed
calculation_step m env Term.All s t = Err TermError.Malformed
calculation_step m env Term.Range s t = Err TermError.Malformed
calculation_step m env Term.From s t = Err TermError.Malformed
calculation_step m env Term.UpTo s t = Err TermError.Malformed
calculation_step m env Term.Or s t = Err TermError.Malformed
calculation_step m env Term.Except s t = Err TermError.Malformed
calculation_step m env Term.And s t = Err TermError.Malformed
calculation_step m env (Term.Compare k) s t = Err TermError.Malformed
calculation_step m env Term.Bad s t = Err TermError.Malformed

-- in a set
abbrev pub set_step : Mode → List ℤ → ℤ → Term → Numbers → ℕ → Result (Numbers × ℕ) TermError
set_step m env v (Term.Part o) s t = after_of (operate_of m env o s) t
set_step m env v (Term.Single o) s t = operated v (operate_of m env o s) t
set_step m env v Term.All s t = noted s t true
set_step m env v Term.Range s t = within v (pair_of s) t
set_step m env v Term.From s t = from v (top_of s) t
set_step m env v Term.UpTo s t = up_to v (top_of s) t
set_step m env v Term.Or s t = combined Joint.Or s t
set_step m env v Term.Except s t = combined Joint.Except s t
set_step m env v Term.And s t = Err TermError.Malformed
set_step m env v (Term.Compare k) s t = Err TermError.Malformed
set_step m env v Term.Bad s t = Err TermError.Malformed

-- in a condition
abbrev pub condition_step : Mode → List ℤ → Term → Numbers → ℕ → Result (Numbers × ℕ) TermError
condition_step m env (Term.Part o) s t = after_of (operate_of m env o s) t
condition_step m env (Term.Single o) s t = Err TermError.Malformed
condition_step m env Term.All s t = Err TermError.Malformed
condition_step m env Term.Range s t = Err TermError.Malformed
condition_step m env Term.From s t = Err TermError.Malformed
condition_step m env Term.UpTo s t = Err TermError.Malformed
condition_step m env Term.Or s t = combined Joint.Or s t
condition_step m env Term.Except s t = Err TermError.Malformed
condition_step m env Term.And s t = combined Joint.And s t
condition_step m env (Term.Compare k) s t = compared k (pair_of s) t
condition_step m env Term.Bad s t = Err TermError.Malformed

-- by the kind of list
abbrev pub step_of : Kind → Mode → List ℤ → ℤ → Term → Numbers → ℕ → Result (Numbers × ℕ) TermError
step_of Kind.Calculation m env v = calculation_step m env
step_of Kind.Set m env v = set_step m env v
step_of Kind.Condition m env v = condition_step m env
