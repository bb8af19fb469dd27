-- Classes of bytes.
-- Assumes nothing.
use Rattle.std.specs.Prelude.{ℕ, ◌+◌, ◌-◌, Bool, cond, not, ◌&&◌, ◌||◌, leb, ltb, eqb, Option, Some, None}
use Rattle.text_header.specs.declared.Class.{Class}

-- b is `low` or more and `high` or less
abbrev pub within : ℕ → ℕ → ℕ → Bool
within low b high = leb low b && leb b high

-- "an ASCII letter"
abbrev pub is_letter : ℕ → Bool
is_letter b = within 65 b 90 || within 97 b 122

-- 0 to 9
abbrev pub is_digit : ℕ → Bool
is_digit b = within 48 b 57

-- "letters, digits, `_`"
abbrev pub is_name : ℕ → Bool
is_name b = is_letter b || (is_digit b || eqb b 95)

-- "spaces or tabs"
abbrev pub is_blank : ℕ → Bool
is_blank b = eqb b 32 || eqb b 9

-- "space, tab, CR and LF only separate tokens"
abbrev pub is_separator : ℕ → Bool
is_separator b = is_blank b || (eqb b 13 || eqb b 10)

-- "printable ASCII (20 to 7e)"
abbrev pub is_printable : ℕ → Bool
is_printable b = within 32 b 126

-- "bytes 20 to 7e or tabs"
abbrev pub is_header : ℕ → Bool
is_header b = is_printable b || eqb b 9

-- a letter as its lower case
abbrev pub lower_case : ℕ → ℕ
lower_case b = cond (within 65 b 90) (b + 32) b

-- the value of a digit up to 15, of either letter case; 16 where a byte is none
abbrev pub digit_of : ℕ → ℕ
digit_of b = cond (is_digit b) (b - 48) (cond (within 97 b 102) (b - 87) (cond (within 65 b 70) (b - 55) 16))

-- the value, where a byte is a digit
abbrev pub digit_found : ℕ → Option ℕ
digit_found b = cond (ltb (digit_of b) 16) (Some (digit_of b)) None

-- a digit of this radix
abbrev pub in_radix : ℕ → ℕ → Bool
in_radix radix b = ltb (digit_of b) radix

-- a byte of a class, as runs of bytes are read
abbrev pub in_class : Class → ℕ → Bool
in_class Class.Blank b = is_blank b
in_class Class.Header b = is_header b
in_class Class.Name b = is_name b
in_class (Class.Digit radix) b = in_radix radix b
in_class (Class.Except other) b = not (eqb b other)
