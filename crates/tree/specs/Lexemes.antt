-- The tokens of a text, each by itself: what it is does not depend on what follows it.
-- Assumes nothing.
use Rattle.std.specs.Prelude.{ℕ, zero, suc, List, [], ◌∷◌, length}
use Rattle.text_literals.specs.Literals.{characters_at}
use Rattle.text_tokens.specs.Numbers.{number_value}
use Rattle.text_tokens.specs.Names.{name_of}
use Rattle.text_tokens.specs.Tokens.{token_of}
use Rattle.text_tokens.specs.declared.Kind.{Kind}
use Rattle.text_tokens.specs.declared.Token.{Token}

-- from where up to where a sign stands
pub record Sign : Type 0 where
  pub start : ℕ
  pub end : ℕ

-- a name as it is spelled
pub record Name : Type 0 where
  pub start : ℕ
  pub end : ℕ
  pub letters : List ℕ

-- a number of any length
pub record Number : Type 0 where
  pub start : ℕ
  pub end : ℕ
  pub value : ℕ

-- a literal and its characters, each a byte
pub record Literal : Type 0 where
  pub start : ℕ
  pub end : ℕ
  pub characters : List ℕ

-- a token
pub data Lexeme : Type 0 where
  sign : Kind → Sign → Lexeme
  word : Name → Lexeme
  numeral : Number → Lexeme
  quoted : Literal → Lexeme
  -- it can stand nowhere: any other byte, "a name or literal, too long or unclosed too"
  stray : Sign → Lexeme
  -- the text's end, at its place
  finish : ℕ → Lexeme

-- where it begins
abbrev pub place_of : Lexeme → ℕ
place_of (sign kind s) = s.start
place_of (word n) = n.start
place_of (numeral n) = n.start
place_of (quoted l) = l.start
place_of (stray s) = s.start
place_of (finish p) = p

-- ---- the tokens of the text that follows the empty line

abbrev pub sign_at : Token → Sign
sign_at t = record { start = t.start; end = t.end }

-- what stands from `start` up to `end`, by its kind
abbrev pub lexeme_as : List ℕ → Token → Kind → Lexeme
lexeme_as xs t Kind.Name = word (record { start = t.start; end = t.end; letters = name_of xs t.start t.end })
lexeme_as xs t Kind.Number = numeral (record { start = t.start; end = t.end; value = number_value xs t.start })
lexeme_as xs t Kind.Literal = quoted (record { start = t.start; end = t.end; characters = characters_at xs t.start })
lexeme_as xs t Kind.Fault = stray (sign_at t)
lexeme_as xs t Kind.End = finish t.start
lexeme_as xs t Kind.Equal = sign Kind.Equal (sign_at t)
lexeme_as xs t Kind.Semicolon = sign Kind.Semicolon (sign_at t)
lexeme_as xs t Kind.Bar = sign Kind.Bar (sign_at t)
lexeme_as xs t Kind.Ampersand = sign Kind.Ampersand (sign_at t)
lexeme_as xs t Kind.OpenParen = sign Kind.OpenParen (sign_at t)
lexeme_as xs t Kind.CloseParen = sign Kind.CloseParen (sign_at t)
lexeme_as xs t Kind.OpenBracket = sign Kind.OpenBracket (sign_at t)
lexeme_as xs t Kind.CloseBracket = sign Kind.CloseBracket (sign_at t)
lexeme_as xs t Kind.OpenBrace = sign Kind.OpenBrace (sign_at t)
lexeme_as xs t Kind.CloseBrace = sign Kind.CloseBrace (sign_at t)
lexeme_as xs t Kind.Question = sign Kind.Question (sign_at t)
lexeme_as xs t Kind.Star = sign Kind.Star (sign_at t)
lexeme_as xs t Kind.Plus = sign Kind.Plus (sign_at t)
lexeme_as xs t Kind.Minus = sign Kind.Minus (sign_at t)
lexeme_as xs t Kind.Tilde = sign Kind.Tilde (sign_at t)
lexeme_as xs t Kind.Bang = sign Kind.Bang (sign_at t)
lexeme_as xs t Kind.Comma = sign Kind.Comma (sign_at t)
lexeme_as xs t Kind.Colon = sign Kind.Colon (sign_at t)
lexeme_as xs t Kind.Less = sign Kind.Less (sign_at t)
lexeme_as xs t Kind.Greater = sign Kind.Greater (sign_at t)
lexeme_as xs t Kind.Unequal = sign Kind.Unequal (sign_at t)
lexeme_as xs t Kind.AtMost = sign Kind.AtMost (sign_at t)
lexeme_as xs t Kind.AtLeast = sign Kind.AtLeast (sign_at t)

-- the one at or after a place
abbrev pub lexeme_of : List ℕ → ℕ → Lexeme
lexeme_of xs at = lexeme_as xs (token_of xs at) (token_of xs at).kind

-- those from a place on, the end last, `most` of them at most; each but the end takes a byte
unfoldable pub lexemes_from : (most : ℕ) → List ℕ → ℕ → List Lexeme
lexemes_from zero xs at = []
lexemes_from (suc most) xs at =
    elim (lexeme_of xs at) [
      | sign kind s ↦ sign kind s ∷ lexemes_from most xs s.end
      | word n ↦ word n ∷ lexemes_from most xs n.end
      | numeral n ↦ numeral n ∷ lexemes_from most xs n.end
      | quoted l ↦ quoted l ∷ lexemes_from most xs l.end
      | stray s ↦ stray s ∷ lexemes_from most xs s.end
      | finish p ↦ finish p ∷ []
    ]

-- all of them, since there are no more than bytes and the end
abbrev pub lexemes : List ℕ → List Lexeme
lexemes xs = lexemes_from (suc (length xs)) xs 0
