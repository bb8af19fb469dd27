-- Worked examples, by computation.
-- Assumes nothing.
use Prim.Native.Nat.{ℕ, zero, suc}
use mathlib.Core.Path.{◌≡◌, refl}
use mathlib.Core.List.{List, [], ◌∷◌}
use Rattle.text_header.specs.Spans.{span_end}
use Rattle.text_literals.specs.Literals.{literal_reach, characters, characters_at}
use Rattle.text_tokens.specs.Numbers.{radix_at, digits_at, number_end_of, digits_value, number_value}
use Rattle.text_tokens.specs.Tokens.{gap_end, token, name_token, number_token, literal_token, sign_token, token_begun, token_of}
use Rattle.text_tokens.specs.declared.Kind.{Kind}
use Rattle.text_tokens.specs.declared.Token.{Token}

-- n tokens from a place on
listing : ℕ → List ℕ → ℕ → List Token
listing zero xs at = []
listing (suc n) xs at = token_of xs at ∷ listing n xs (token_of xs at).end

-- K10: `frame = uint(8, var(t, ~)) & [t = 1: "A"; t = 2: uint(16, ~);];`
ten : List ℕ
ten = 102 ∷ 114 ∷ 97 ∷ 109 ∷ 101 ∷ 32 ∷ 61 ∷ 32 ∷ 117 ∷ 105 ∷ 110 ∷ 116 ∷ 40 ∷ 56 ∷ 44 ∷ 32 ∷ 118 ∷ 97 ∷ 114 ∷ 40 ∷ 116 ∷ 44 ∷ 32 ∷ 126 ∷ 41 ∷ 41 ∷ 32 ∷ 38 ∷ 32 ∷ 91 ∷ 116 ∷ 32 ∷ 61 ∷ 32 ∷ 49 ∷ 58 ∷ 32 ∷ 34 ∷ 65 ∷ 34 ∷ 59 ∷ 32 ∷ 116 ∷ 32 ∷ 61 ∷ 32 ∷ 50 ∷ 58 ∷ 32 ∷ 117 ∷ 105 ∷ 110 ∷ 116 ∷ 40 ∷ 49 ∷ 54 ∷ 44 ∷ 32 ∷ 126 ∷ 41 ∷ 59 ∷ 93 ∷ 59 ∷ []

ten_tokens : listing 35 ten 0 ≡ token 0 5 Kind.Name ∷ token 6 7 Kind.Equal ∷ token 8 12 Kind.Name ∷ token 12 13 Kind.OpenParen ∷ token 13 14 Kind.Number ∷ token 14 15 Kind.Comma ∷ token 16 19 Kind.Name ∷ token 19 20 Kind.OpenParen ∷ token 20 21 Kind.Name ∷ token 21 22 Kind.Comma ∷ token 23 24 Kind.Tilde ∷ token 24 25 Kind.CloseParen ∷ token 25 26 Kind.CloseParen ∷ token 27 28 Kind.Ampersand ∷ token 29 30 Kind.OpenBracket ∷ token 30 31 Kind.Name ∷ token 32 33 Kind.Equal ∷ token 34 35 Kind.Number ∷ token 35 36 Kind.Colon ∷ token 37 40 Kind.Literal ∷ token 40 41 Kind.Semicolon ∷ token 42 43 Kind.Name ∷ token 44 45 Kind.Equal ∷ token 46 47 Kind.Number ∷ token 47 48 Kind.Colon ∷ token 49 53 Kind.Name ∷ token 53 54 Kind.OpenParen ∷ token 54 56 Kind.Number ∷ token 56 57 Kind.Comma ∷ token 58 59 Kind.Tilde ∷ token 59 60 Kind.CloseParen ∷ token 60 61 Kind.Semicolon ∷ token 61 62 Kind.CloseBracket ∷ token 62 63 Kind.Semicolon ∷ token 63 63 Kind.End ∷ []
unfolding listing ten token_of gap_end token_begun name_token number_token literal_token sign_token span_end number_end_of digits_at radix_at literal_reach
ten_tokens = refl

-- `!=2`, `! =`
unequal : listing 3 (33 ∷ 61 ∷ 50 ∷ []) 0 ≡ token 0 2 Kind.Unequal ∷ token 2 3 Kind.Number ∷ token 3 3 Kind.End ∷ []
unfolding listing token_of gap_end token_begun number_token sign_token span_end number_end_of digits_at radix_at
unequal = refl

-- `0x1F`, and `0x)`, whose number is 0
hexadecimal : number_value (48 ∷ 120 ∷ 49 ∷ 70 ∷ []) 0 ≡ 31
unfolding digits_value digits_at radix_at
hexadecimal = refl

no_digit : token_of (48 ∷ 120 ∷ 41 ∷ []) 0 ≡ token 0 1 Kind.Number
unfolding token_of gap_end token_begun number_token span_end number_end_of digits_at radix_at
no_digit = refl

-- `'\[41]\''`
escapes : characters_at (39 ∷ 92 ∷ 91 ∷ 52 ∷ 49 ∷ 93 ∷ 92 ∷ 39 ∷ 39 ∷ []) 0 ≡ 65 ∷ 39 ∷ []
unfolding characters
escapes = refl
