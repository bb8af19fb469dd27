-- Strings of at most 8 bits by their numbers: "Its number is a 1 followed by its bits".
-- Assumes nothing.
use Rattle.std.specs.Prelude.{ℕ, ◌/◌, ◌^◌, ◌≡◌, cond, List, ltb}
use Rattle.basis.specs.Bits.{Bits, bits_of}
use Rattle.basis.specs.Lookahead.{number}
use Rattle.lookahead.specs.Sets.{Has}

-- how many bits the string with a number has
unfoldable pub width_of : ℕ → ℕ
width_of n =
    cond (ltb n 2) 0 (cond (ltb n 4) 1 (cond (ltb n 8) 2 (cond (ltb n 16) 3 (cond (ltb n 32) 4 (cond (ltb n 64) 5 (cond (ltb n 128) 6 (cond (ltb n 256) 7 8)))))))

-- the string with a number
abbrev pub string : ℕ → Bits
string n = bits_of (width_of n) n

-- the number n begins with the bits of another
abbrev pub Begun : ℕ → ℕ → Type 0
Begun n with = (k : ℕ) × (n / 2 ^ k ≡ with)

-- a string of the set begins with the string of this number
abbrev pub SomeBegins : List ℕ → ℕ → Type 0
SomeBegins words with = (s : Bits) × Has words s × Begun (number s) with
