-- Tokens: names, numbers, literals, signs; the longest comes first. Places count from the first byte of the rules' part.
-- Assumes nothing.
use Rattle.std.specs.Prelude.{ℕ, ◌+◌, ◌-◌, Bool, true, false, cond, not, ◌&&◌, ◌||◌, List, [], ◌∷◌, leb, ltb, eqb, length, get_or, drop}
use Rattle.basis.specs.Limits.{max_name_bytes}
use Rattle.text_header.specs.Bytes.{is_letter, is_digit, is_separator}
use Rattle.text_header.specs.Spans.{span_end}
use Rattle.text_header.specs.declared.Class.{Class}
use Rattle.text_tokens.specs.Numbers.{number_end_of}
use Rattle.text_literals.specs.Literals.{is_quote, literal_at, is_right}
use Rattle.text_tokens.specs.declared.Kind.{Kind}
use Rattle.text_tokens.specs.declared.Token.{Token}

-- ---- "space, tab, CR and LF only separate tokens, and `#` runs a comment to the line's end"

-- a byte that only separates; `comment` says that it stands in a comment
abbrev pub separates : Bool → ℕ → Bool
separates comment b = comment || (is_separator b || eqb b 35)

-- LF ends a comment, `#` begins one
abbrev pub comment_after : Bool → ℕ → Bool
comment_after comment b = cond comment (not (eqb b 10)) (eqb b 35)

-- where the bytes that only separate end; they stand from place i on
unfoldable pub gap_end : Bool → ℕ → List ℕ → ℕ
gap_end comment i [] = i
gap_end comment i (b ∷ bs) = elim (separates comment b) [ true ↦ gap_end (comment_after comment b) (i + 1) bs | false ↦ i ]

-- ---- signs

-- `!=`, `<=`, `>=`
abbrev pub is_pair : ℕ → ℕ → Bool
is_pair b c = eqb c 61 && (eqb b 33 || (eqb b 60 || eqb b 62))

-- which of the three it is
abbrev pub pair_of : ℕ → Kind
pair_of b = cond (eqb b 33) Kind.Unequal (cond (eqb b 60) Kind.AtMost Kind.AtLeast)

-- any other byte is a token that can stand nowhere
abbrev pub sign_of : ℕ → Kind
sign_of b =
    cond (eqb b 61) Kind.Equal
    (cond (eqb b 59) Kind.Semicolon
    (cond (eqb b 124) Kind.Bar
    (cond (eqb b 38) Kind.Ampersand
    (cond (eqb b 40) Kind.OpenParen
    (cond (eqb b 41) Kind.CloseParen
    (cond (eqb b 91) Kind.OpenBracket
    (cond (eqb b 93) Kind.CloseBracket
    (cond (eqb b 123) Kind.OpenBrace
    (cond (eqb b 125) Kind.CloseBrace
    (cond (eqb b 63) Kind.Question
    (cond (eqb b 42) Kind.Star
    (cond (eqb b 43) Kind.Plus
    (cond (eqb b 45) Kind.Minus
    (cond (eqb b 126) Kind.Tilde
    (cond (eqb b 33) Kind.Bang
    (cond (eqb b 44) Kind.Comma
    (cond (eqb b 58) Kind.Colon
    (cond (eqb b 60) Kind.Less
    (cond (eqb b 62) Kind.Greater
    Kind.Fault)))))))))))))))))))

-- ---- the token that begins at place i

-- a token: from where up to where, and what it is
abbrev pub token : ℕ → ℕ → Kind → Token
token start end kind = record { start = start; end = end; kind = kind }

-- "Names: an ASCII letter, then letters, digits, `_`, at most 32 bytes"; 4: "a name or literal, too long or unclosed too, is one token"
unfoldable pub name_token : List ℕ → ℕ → Token
name_token xs i =
    token i (span_end Class.Name i (drop i xs)) (cond (leb (span_end Class.Name i (drop i xs) - i) max_name_bytes) Kind.Name Kind.Fault)

-- a number of any length; whether it is too large is refusal 8
unfoldable pub number_token : List ℕ → ℕ → Token
number_token xs i = token i (number_end_of xs i) Kind.Number

-- a faulty literal ends with the byte that makes it wrong, or with the text
unfoldable pub literal_token : List ℕ → ℕ → Token
literal_token xs i = token i (literal_at xs i).end (cond (is_right (literal_at xs i)) Kind.Literal Kind.Fault)

-- a sign; the longer one first
unfoldable pub sign_token : List ℕ → ℕ → Token
sign_token xs i =
    elim (is_pair (get_or xs i 0) (get_or xs (i + 1) 0)) [
      | true ↦ token i (i + 2) (pair_of (get_or xs i 0))
      | false ↦ token i (i + 1) (sign_of (get_or xs i 0))
    ]

-- what it is, by its first byte
unfoldable pub token_begun : List ℕ → ℕ → Token
token_begun xs i =
    elim (is_letter (get_or xs i 0)) [
      | true ↦ name_token xs i
      | false ↦ elim (is_digit (get_or xs i 0)) [
        | true ↦ number_token xs i
        | false ↦ elim (is_quote (get_or xs i 0)) [ true ↦ literal_token xs i | false ↦ sign_token xs i ]
      ]
    ]

-- ---- the token at or after a place; at the end an empty one

-- that token, or the end
abbrev pub token_from : List ℕ → ℕ → Token
token_from xs i = elim (ltb i (length xs)) [ true ↦ token_begun xs i | false ↦ token i i Kind.End ]

-- past the bytes that only separate
unfoldable pub token_of : List ℕ → ℕ → Token
token_of xs at = token_from xs (gap_end false at (drop at xs))
