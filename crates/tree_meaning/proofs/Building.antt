-- Trees written by hand: tokens by their places.
-- Assumes nothing.
use Prim.Native.Nat.{ℕ, suc, ◌+◌}
use Prim.Native.Char.{code}
use Prim.Native.String.{String, [] as end, ◌∷◌ as ◌then◌}
use mathlib.Core.List.{List, [], ◌∷◌}
use lib.ListN.{length}
use Rattle.tree.specs.Lexemes.{Sign, Name, Number, Literal}

-- a character below 128 is one byte
unfoldable pub bytes : String → List ℕ
bytes end = []
bytes (c then s) = code c ∷ bytes s

-- a token of one byte, or of more
abbrev pub at : ℕ → Sign
at p = record { start = p; end = suc p }

abbrev pub over : ℕ → ℕ → Sign
over p e = record { start = p; end = e }

abbrev pub name : ℕ → String → Name
name p s = record { start = p; end = p + length (bytes s); letters = bytes s }

abbrev pub num : (start end value : ℕ) → Number
num p e n = record { start = p; end = e; value = n }

abbrev pub quote : (start end : ℕ) → String → Literal
quote p e s = record { start = p; end = e; characters = bytes s }
