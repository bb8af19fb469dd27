-- How deep brackets are nested after a token, by the token's code: a bracket's is its byte. Braces hold no brackets, and are not counted.
-- Assumes nothing.
use Rattle.std.specs.Prelude.{ℕ, ◌+◌, ◌-◌, min, Bool, cond, ◌||◌, eqb}

-- ( [
unfoldable pub is_opening : ℕ → Bool
is_opening code = eqb code 40 || eqb code 91

-- ) ]
unfoldable pub is_closing : ℕ → Bool
is_closing code = eqb code 41 || eqb code 93

-- depths stay within a usize
unfoldable pub nested : (code depth : ℕ) → ℕ
nested code depth = cond (is_opening code) (min (depth + 1) 18446744073709551615) (cond (is_closing code) (depth - 1) depth)
