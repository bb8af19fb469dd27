-- What tokens are, by their codes (`text_parsing` `Terminals`).
-- Assumes nothing.
use Rattle.std.specs.Prelude.{ℕ, Bool, ◌&&◌, ◌||◌, leb, eqb}

-- names, numbers, literals, and what opens an item
abbrev pub begins_item : ℕ → Bool
begins_item code = (leb 1 code && leb code 3) || ((leb 6 code && leb code 9) || (eqb code 40 || eqb code 91))

-- a name, a number, a literal, a closing bracket
abbrev pub ends_item : ℕ → Bool
ends_item code = ((leb 1 code && leb code 3) || eqb code 7) || (eqb code 9 || (eqb code 41 || (eqb code 93 || eqb code 125)))

-- a literal, of one character or more
unfoldable pub is_literal : ℕ → Bool
is_literal code = eqb code 3 || eqb code 9

-- a literal beside a `~`
abbrev pub is_ranging : (code last : ℕ) → Bool
is_ranging code last = (eqb code 126 && is_literal last) || (eqb last 126 && is_literal code)

-- after `uint(`, or after `uint(` and a width
abbrev pub in_field : (third second last : ℕ) → Bool
in_field third second last = (eqb second 6 && eqb last 40) || (eqb third 6 && (eqb second 40 && eqb last 2))

-- after a width and a comma, or a variable's name and a comma
abbrev pub in_set : (second last : ℕ) → Bool
in_set second last = eqb last 44 && (eqb second 2 || eqb second 1)

-- & |
abbrev pub is_joining : ℕ → Bool
is_joining code = eqb code 38 || eqb code 124
