-- Bit strings. "most significant bit first" (document 01): the first bit of a byte or of a uint is its highest.
-- Assumes nothing.
use Rattle.std.specs.Prelude.{ℕ, zero, suc, ◌+◌, ◌*◌, ◌/◌, ◌%◌, ◌^◌, Bool, true, false, ◌&&◌, List, [], ◌∷◌, ◌++◌, eqb}
use Rattle.std.specs.Bool.{beq}

-- a string of bits, in the order in which they come
abbrev pub Bits : Type 0
Bits = List Bool

-- the number that a bit is
abbrev pub digit : Bool → ℕ
digit true = 1
digit false = 0

-- the `width` low bits of a number, highest first
unfoldable pub bits_of : ℕ → ℕ → Bits
bits_of zero v = []
bits_of (suc w) v = eqb (v / 2 ^ w % 2) 1 ∷ bits_of w v

-- the number whose digits follow those of `n`
unfoldable pub append_digits : ℕ → Bits → ℕ
append_digits n [] = n
append_digits n (b ∷ s) = append_digits (n * 2 + digit b) s

-- the number that a string of bits is, highest first
abbrev pub value : Bits → ℕ
value s = append_digits 0 s

-- a frame's bits: those of its bytes in order
unfoldable pub frame_bits : List ℕ → Bits
unfolding bits_of
frame_bits [] = []
frame_bits (b ∷ bs) = bits_of 8 b ++ frame_bits bs

-- two strings of bits are the same
unfoldable pub same : Bits → Bits → Bool
same [] [] = true
same [] (b ∷ t) = false
same (a ∷ s) [] = false
same (a ∷ s) (b ∷ t) = beq a b && same s t
