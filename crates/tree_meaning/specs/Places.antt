-- Where tokens begin, and the places of what is wrong: "within one, the smallest place".
-- Assumes nothing.
use Rattle.std.specs.Prelude.{ℕ, min, Bool, true, false, List, [], ◌∷◌}
use Rattle.std.proofs.Math.Option.{Option, none, some}
use Rattle.tree.specs.Lexemes.{Lexeme, place_of}

-- where tokens begin
abbrev pub first_byte : List Lexeme → ℕ
first_byte [] = 0
first_byte (x ∷ more) = place_of x

-- a place, where there is a fault
abbrev pub place_if : Bool → ℕ → List ℕ
place_if true p = p ∷ []
place_if false p = []

-- the lesser of a place and another, if there is one
abbrev pub lesser : ℕ → Option ℕ → ℕ
lesser p none = p
lesser p (some q) = min p q

-- the smallest of these places
unfoldable pub least : List ℕ → Option ℕ
least [] = none
least (p ∷ more) = some (lesser p (least more))
