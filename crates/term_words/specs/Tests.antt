-- The tests that wait while a set or a condition is worked out. They are a number: a 1 followed by a digit for each, the last one last,
-- as a window's number is (document 01).
-- Assumes nothing.
use Rattle.std.specs.Prelude.{ℕ, ◌+◌, ◌*◌, ◌/◌, ◌%◌, ◌^◌, Bool, true, false, cond, ltb, eqb, Result, Ok, Err}
use Rattle.basis.specs.Bits.{digit}
use Rattle.term_words.specs.declared.Joint.{Joint}
use Rattle.term_words.specs.declared.Numbers.{Numbers}
use Rattle.term_words.specs.declared.TermError.{TermError}

-- one test more; 62 may wait
unfoldable pub noted : Numbers → ℕ → Bool → Result (Numbers × ℕ) TermError
noted s t b = cond (ltb t (2 ^ 62)) (Ok (s, t * 2 + digit b)) (Err TermError.Malformed)

-- `|` is either, `&` both, and `!` the left without the right
abbrev pub joins : Joint → Bool → Bool → Bool
joins Joint.Or x y = cond x true y
joins Joint.And x y = cond x y false
joins Joint.Except x y = cond y false x

-- the last two tests become one
unfoldable pub combined : Joint → Numbers → ℕ → Result (Numbers × ℕ) TermError
combined j s t = cond (ltb t 4) (Err TermError.Malformed) (noted s (t / 4) (joins j (eqb (t / 2 % 2) 1) (eqb (t % 2) 1)))
