-- What a list of terms means: the value of a calculation, whether a value is in a set, whether a condition holds.
-- Assumes nothing.
use Rattle.std.specs.Prelude.{ℕ, ◌+◌, List, [], ◌∷◌, cond, eqb, ℤ, pos, Result, Ok, Err, Bool, true, false}
use Rattle.term_words.specs.Steps.{step_of}
use Rattle.term_evaluation.specs.declared.Ended.{Ended}
use Rattle.term_words.specs.declared.Kind.{Kind}
use Rattle.term_words.specs.declared.Mode.{Mode}
use Rattle.term_words.specs.declared.Numbers.{Numbers}
use Rattle.term_words.specs.declared.Term.{Term}
use Rattle.term_words.specs.declared.TermError.{TermError}

-- goes on with what waits, or ends at term number `i`
abbrev pub next : (Numbers → ℕ → Ended) → ℕ → Result (Numbers × ℕ) TermError → Ended
next go i (Ok (s, t)) = go s t
next go i (Err e) = record { trial = Err e; at = i }

-- a list of terms of which the first has number `i`, worked out one by one
unfoldable pub run : Kind → Mode → List ℤ → ℤ → ℕ → List Term → Numbers → ℕ → Ended
run k m env v i [] s t = record { trial = Ok (s, t); at = i }
run k m env v i (x ∷ xs) s t = next (λ s' t'. run k m env v (i + 1) xs s' t') i (step_of k m env v x s t)

-- ---- the end: one number and nothing else, or one test and nothing else

-- a calculation leaves one number
abbrev pub alone_of : Numbers → Result ℤ TermError
alone_of Numbers.Zero = Err TermError.Malformed
alone_of (Numbers.One a) = Ok a
alone_of (Numbers.Two a b) = Err TermError.Malformed
alone_of (Numbers.Three a b c) = Err TermError.Malformed
alone_of (Numbers.Four a b c d) = Err TermError.Malformed

-- the value of a calculation, where it came to its end
abbrev pub number_of : Result (Numbers × ℕ) TermError → Result ℤ TermError
number_of (Ok (s, t)) = alone_of s
number_of (Err e) = Err e

-- a set or a condition leaves one test, the number 2 where it fails and 3 where it holds (`Tests`), and no number
abbrev pub last_of : Numbers → ℕ → Result Bool TermError
last_of Numbers.Zero t = cond (eqb t 2) (Ok false) (cond (eqb t 3) (Ok true) (Err TermError.Malformed))
last_of (Numbers.One a) t = Err TermError.Malformed
last_of (Numbers.Two a b) t = Err TermError.Malformed
last_of (Numbers.Three a b c) t = Err TermError.Malformed
last_of (Numbers.Four a b c d) t = Err TermError.Malformed

-- whether a set or a condition holds, where it came to its end
abbrev pub verdict_of : Result (Numbers × ℕ) TermError → Result Bool TermError
verdict_of (Ok (s, t)) = last_of s t
verdict_of (Err e) = Err e

-- the value of a calculation, at the values of the variables
unfoldable pub calculation : List ℤ → ℕ → List Term → Result ℤ TermError
calculation env i xs = number_of (run Kind.Calculation Mode.Values env (pos 0) i xs Numbers.Zero 1).trial

-- whether `v` is in a set
unfoldable pub membership : List ℤ → ℤ → ℕ → List Term → Result Bool TermError
membership env v i xs = verdict_of (run Kind.Set Mode.Values env v i xs Numbers.Zero 1).trial

-- whether a condition holds
unfoldable pub condition : List ℤ → ℕ → List Term → Result Bool TermError
condition env i xs = verdict_of (run Kind.Condition Mode.Values env (pos 0) i xs Numbers.Zero 1).trial
