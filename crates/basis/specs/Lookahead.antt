-- Lookahead strings (document 01's windows). "A window is a string of 0 to 8 bits: what comes next, shorter than 8 only where the
-- frame ends. Its number is a 1 followed by its bits: empty 1, 0010 is 18, byte 41 is 321."
-- Assumes nothing.
use Rattle.std.specs.Prelude.{ℕ, ◌++◌, take}
use Rattle.basis.specs.Bits.{Bits, append_digits}

-- what comes next, of the bits that are left
abbrev pub lookahead : Bits → Bits
lookahead s = take 8 s

-- "the joined windows, cut at 8"
abbrev pub join : Bits → Bits → Bits
join a b = lookahead (a ++ b)

-- a window's number
abbrev pub number : Bits → ℕ
number s = append_digits 1 s
