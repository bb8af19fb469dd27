-- Numbers: "decimal, 0x, 0o, 0b"; the longest well-formed number is the token.
-- Assumes nothing.
use Rattle.std.specs.Prelude.{ℕ, ◌+◌, ◌*◌, min, true, false, cond, ◌&&◌, List, [], ◌∷◌, eqb, get_or, drop}
use Rattle.text_header.specs.Bytes.{lower_case, digit_of, in_radix}
use Rattle.text_header.specs.Spans.{span_end}
use Rattle.text_header.specs.declared.Class.{Class}

-- the radix that the letter after a 0 names, in either case
abbrev pub named_radix : ℕ → ℕ
named_radix b = cond (eqb (lower_case b) 120) 16 (cond (eqb (lower_case b) 111) 8 (cond (eqb (lower_case b) 98) 2 10))

-- the radix of the number that begins with three bytes: a 0 and a letter name it only where a digit follows
abbrev pub radix_of : ℕ → ℕ → ℕ → ℕ
radix_of a b c = cond (eqb a 48 && in_radix (named_radix b) c) (named_radix b) 10

-- the radix of the number at i
unfoldable pub radix_at : List ℕ → ℕ → ℕ
radix_at xs i = radix_of (get_or xs i 0) (get_or xs (i + 1) 0) (get_or xs (i + 2) 0)

-- where the digits of the number at i begin
unfoldable pub digits_at : List ℕ → ℕ → ℕ
digits_at xs i = cond (eqb (radix_at xs i) 10) i (i + 2)

-- where the number at i ends: digits of its radix, as many as come
unfoldable pub number_end_of : List ℕ → ℕ → ℕ
number_end_of xs i = span_end (Class.Digit (radix_at xs i)) (digits_at xs i) (drop (digits_at xs i) xs)

-- the number that v and the digits after it are
unfoldable pub digits_value : ℕ → ℕ → List ℕ → ℕ
digits_value radix v [] = v
digits_value radix v (b ∷ bs) = elim (in_radix radix b) [ true ↦ digits_value radix (v * radix + digit_of b) bs | false ↦ v ]

-- the value of the number at i
abbrev pub number_value : List ℕ → ℕ → ℕ
number_value xs i = digits_value (radix_at xs i) 0 (drop (digits_at xs i) xs)

-- a value up to 2^62; all that is more is 2^62 + 1 ("a calculation ... whose size may pass 2^62")
abbrev pub capped : ℕ → ℕ
capped v = min v 4611686018427387905
