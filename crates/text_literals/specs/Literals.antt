-- Literals: "in `\"` or `'`: printable ASCII (20 to 7e), 1 to 32 characters, `\\`, `\"`, `\'`, and `\[hex]` up to 7f".
-- Assumes nothing.
use Rattle.std.specs.Prelude.{ℕ, ◌+◌, ◌*◌, Bool, true, false, cond, ◌&&◌, ◌||◌, List, [], ◌∷◌, leb, eqb, get_or, drop}
use Rattle.basis.specs.Limits.{max_literal_bytes}
use Rattle.text_header.specs.Bytes.{is_printable, digit_of, in_radix}
use Rattle.text_literals.specs.declared.Part.{Part}
use Rattle.text_literals.specs.declared.Part.TheVariants.{Start, Escape, Bracket, Digits, Character, Closed, Wrong}
use Rattle.text_literals.specs.declared.Extent.{Extent}

-- `"` or `'`
abbrev pub is_quote : ℕ → Bool
is_quote b = eqb b 34 || eqb b 39

-- ---- one byte of a literal; `quote` opened it

-- where a character may begin or the literal end
abbrev pub between : ℕ → ℕ → Part
between quote b = cond (eqb b quote) Closed (cond (eqb b 92) Escape (cond (is_printable b) (Character b) Wrong))

-- after a backslash
abbrev pub escaped : ℕ → Part
escaped b = cond (eqb b 91) Bracket (cond (eqb b 92 || is_quote b) (Character b) Wrong)

-- a hexadecimal digit after n: "up to 7f"
abbrev pub widened : ℕ → ℕ → Part
widened n b = cond (leb (16 * n + digit_of b) 127) (Digits (16 * n + digit_of b)) Wrong

-- how far a literal has come with one byte more; the first byte may not close it, since it has "1 to 32 characters"
abbrev pub part_after : Part → ℕ → ℕ → Part
part_after Start quote b = cond (eqb b quote) Wrong (between quote b)
part_after Escape quote b = escaped b
part_after Bracket quote b = cond (in_radix 16 b) (widened 0 b) Wrong
part_after (Digits n) quote b = cond (in_radix 16 b) (widened n b) (cond (eqb b 93) (Character n) Wrong)
part_after (Character c) quote b = between quote b
part_after Closed quote b = Wrong
part_after Wrong quote b = Wrong

-- ---- the whole literal

-- nothing of the literal comes after it
abbrev pub stops : Part → Bool
stops Start = false
stops Escape = false
stops Bracket = false
stops (Digits n) = false
stops (Character c) = false
stops Closed = true
stops Wrong = true

-- characters are counted, not bytes
abbrev pub counted : ℕ → Part → ℕ
counted n Start = n
counted n Escape = n
counted n Bracket = n
counted n (Digits v) = n
counted n (Character c) = n + 1
counted n Closed = n
counted n Wrong = n

-- what came last, how many characters there are, and where it ends
abbrev pub reached : Part → ℕ → ℕ → Extent
reached part count end = record { part = part; count = count; end = end }

-- How far a literal goes: to its closing quote, to the first byte that is wrong, or to the text's end; and how many characters it has.
-- The bytes stand from place i on, after n characters.
unfoldable pub literal_reach : ℕ → Part → ℕ → ℕ → List ℕ → Extent
literal_reach quote p n i [] = reached p n i
literal_reach quote p n i (b ∷ bs) =
    elim (stops (part_after p quote b)) [
      | true ↦ reached (part_after p quote b) n (i + 1)
      | false ↦ literal_reach quote (part_after p quote b) (counted n (part_after p quote b)) (i + 1) bs
    ]

-- the literal whose opening quote stands at i
abbrev pub literal_at : List ℕ → ℕ → Extent
literal_at xs i = literal_reach (get_or xs i 0) Start 0 (i + 1) (drop (i + 1) xs)

-- its closing quote came
abbrev pub is_closed : Part → Bool
is_closed Start = false
is_closed Escape = false
is_closed Bracket = false
is_closed (Digits n) = false
is_closed (Character c) = false
is_closed Closed = true
is_closed Wrong = false

-- "1 to 32 characters"; an empty one is wrong at its closing quote
abbrev pub is_right : Extent → Bool
is_right r = is_closed r.part && leb r.count max_literal_bytes

-- ---- the characters, "8 bits a character"

abbrev pub with_character : Part → List ℕ → List ℕ
with_character Start cs = cs
with_character Escape cs = cs
with_character Bracket cs = cs
with_character (Digits n) cs = cs
with_character (Character c) cs = c ∷ cs
with_character Closed cs = cs
with_character Wrong cs = cs

-- those of the bytes that follow, the literal having come as far as p
unfoldable pub characters : ℕ → Part → List ℕ → List ℕ
characters quote p [] = []
characters quote p (b ∷ bs) =
    elim (stops (part_after p quote b)) [ true ↦ [] | false ↦ with_character (part_after p quote b) (characters quote (part_after p quote b) bs) ]

-- those of the literal whose opening quote stands at i
abbrev pub characters_at : List ℕ → ℕ → List ℕ
characters_at xs i = characters (get_or xs i 0) Start (drop (i + 1) xs)

-- the character that ended there; 0 where none did
abbrev pub value_of : Part → ℕ
value_of Start = 0
value_of Escape = 0
value_of Bracket = 0
value_of (Digits n) = 0
value_of (Character c) = c
value_of Closed = 0
value_of Wrong = 0
