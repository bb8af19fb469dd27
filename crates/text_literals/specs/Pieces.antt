-- A literal by its characters: "in `\"` or `'`: printable ASCII (20 to 7e), 1 to 32 characters, `\\`, `\"`, `\'`, and `\[hex]` up to 7f".
-- The law `PieceLaws` says that `Literals` reads these.
-- Assumes nothing.
use Rattle.std.specs.Prelude.{ℕ, ◌+◌, ◌*◌, ◌≤◌, ◌≡◌, Bool, true, false, ◌&&◌, ◌||◌, List, [], ◌∷◌, ◌++◌, eqb}
use Rattle.text_header.specs.Bytes.{is_printable, digit_of, in_radix}
use Rattle.text_literals.specs.Literals.{is_quote}

-- a character of a literal
pub data Piece : Type 0 where
  -- a printable byte
  plain : ℕ → Piece
  -- a backslash and a byte
  escape : ℕ → Piece
  -- `\[hex]`: its first digit, and the others
  hexadecimal : ℕ → List ℕ → Piece

-- the number that v and the digits after it are
unfoldable pub hex_value : ℕ → List ℕ → ℕ
hex_value v [] = v
hex_value v (d ∷ ds) = hex_value (16 * v + digit_of d) ds

-- every byte is a hexadecimal digit
unfoldable pub all_hex : List ℕ → Bool
all_hex [] = true
all_hex (d ∷ ds) = in_radix 16 d && all_hex ds

-- how it is written
abbrev pub written : Piece → List ℕ
written (plain b) = b ∷ []
written (escape b) = 92 ∷ b ∷ []
written (hexadecimal d ds) = 92 ∷ 91 ∷ d ∷ (ds ++ (93 ∷ []))

-- which character it is
abbrev pub value : Piece → ℕ
value (plain b) = b
value (escape b) = b
value (hexadecimal d ds) = hex_value 0 (d ∷ ds)

-- it may stand in a literal that this quote opened
abbrev pub Right : ℕ → Piece → Type 0
Right quote (plain b) = (is_printable b ≡ true) × (eqb b quote ≡ false) × (eqb b 92 ≡ false)
Right quote (escape b) = (eqb b 92 || is_quote b) ≡ true
Right quote (hexadecimal d ds) = (in_radix 16 d ≡ true) × (all_hex ds ≡ true) × (hex_value 0 (d ∷ ds) ≤ 127)

-- several, one after the other
unfoldable pub spelled : List Piece → List ℕ
spelled [] = []
spelled (x ∷ xs) = written x ++ spelled xs

-- each of them may stand there
abbrev pub All-right : ℕ → List Piece → Type 0
All-right quote [] = Unit {0}
All-right quote (x ∷ xs) = Right quote x × All-right quote xs
