-- How a byte of a grammar is shown, and the bits of a window.
-- Assumes nothing.
use Rattle.std.specs.Prelude.{ℕ, ◌%◌, cond, eqb, ltb}
use Rattle.text_header.specs.Bytes.{is_printable}
use Rattle.report_wording.specs.declared.writing.Style.{Style}

-- a dot for what cannot be shown
unfoldable pub visible : ℕ → ℕ
visible b = cond (is_printable b) b 46

-- a tab stays
unfoldable pub in_line : ℕ → ℕ
in_line b = cond (eqb b 9) b (visible b)

unfoldable pub under : ℕ → ℕ
under b = cond (eqb b 9) b 32

unfoldable pub styled : Style → ℕ → ℕ
styled Style.Line b = in_line b
styled Style.Under b = under b

-- how many bits a window has: "its number is a 1 followed by its bits"
unfoldable pub size_below_16 : ℕ → ℕ
size_below_16 n = cond (ltb n 2) 0 (cond (ltb n 4) 1 (cond (ltb n 8) 2 3))

unfoldable pub size_from_16 : ℕ → ℕ
size_from_16 n = cond (ltb n 32) 4 (cond (ltb n 64) 5 (cond (ltb n 128) 6 (cond (ltb n 256) 7 8)))

unfoldable pub size_of : ℕ → ℕ
size_of n = cond (ltb n 16) (size_below_16 n) (size_from_16 n)

-- the digit of a number's last bit
unfoldable pub digit_of : ℕ → ℕ
digit_of n = cond (eqb (n % 2) 0) 48 49
