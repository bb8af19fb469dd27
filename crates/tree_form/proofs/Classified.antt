-- The reader's terminals are the text's tokens, classified: only the code of `uint` and of `var` depends on the token that follows.
-- Assumes nothing.
use Prim.Native.Nat.{ℕ, zero, suc, ◌-◌, ◌<◌}
use mathlib.Core.Path.{◌≡◌, refl, sym, ap, ap₂, ◌∙◌}
use mathlib.Core.Bool.{Bool, true, false, cond}
use mathlib.Core.List.{List, [], ◌∷◌}
use native.Mathlib.Omega.{arith}
use lib.Dec.{eqb}
use lib.ListN.{length}
use Rattle.text_tokens.specs.Numbers.{capped}
use Rattle.text_tokens.specs.Names.{reserved_of}
use Rattle.text_tokens.specs.Tokens.{token_of}
use Rattle.text_tokens.specs.declared.Kind.{Kind}
use Rattle.text_tokens.specs.declared.Token.{Token}
use Rattle.text_parsing.specs.Terminals.{code_of, opens_at, word_code, name_code, literal_code, terminal, seen, terminal_of, terminals, terminals_from, live}
use Rattle.text_parsing.specs.declared.Terminal.{Terminal}
use Rattle.text_parsing.proofs.TerminalLaws.{Stands, ended, moving, stands, seen_as, live_end}
use Rattle.tree.specs.Lexemes.{Name, Number, Literal, Lexeme, sign, word, numeral, quoted, stray, finish, place_of, lexeme_as, lexeme_of, lexemes_from, lexemes}

-- the code of a sign; what is no sign can stand nowhere
abbrev pub sign_code : Kind → ℕ
sign_code Kind.Name = 4
sign_code Kind.Number = 4
sign_code Kind.Literal = 4
sign_code Kind.Fault = 4
sign_code Kind.End = 4
sign_code Kind.Equal = 61
sign_code Kind.Semicolon = 59
sign_code Kind.Bar = 124
sign_code Kind.Ampersand = 38
sign_code Kind.OpenParen = 40
sign_code Kind.CloseParen = 41
sign_code Kind.OpenBracket = 91
sign_code Kind.CloseBracket = 93
sign_code Kind.OpenBrace = 123
sign_code Kind.CloseBrace = 125
sign_code Kind.Question = 63
sign_code Kind.Star = 42
sign_code Kind.Plus = 43
sign_code Kind.Minus = 45
sign_code Kind.Tilde = 126
sign_code Kind.Bang = 33
sign_code Kind.Comma = 44
sign_code Kind.Colon = 58
sign_code Kind.Less = 60
sign_code Kind.Greater = 62
sign_code Kind.Unequal = 161
sign_code Kind.AtMost = 188
sign_code Kind.AtLeast = 190

-- it is `(`
abbrev pub is_paren : Lexeme → Bool
is_paren (sign kind s) = eqb (sign_code kind) 40
is_paren (word n) = false
is_paren (numeral n) = false
is_paren (quoted l) = false
is_paren (stray s) = false
is_paren (finish p) = false

-- `(` comes next
abbrev pub opens : List Lexeme → Bool
opens [] = false
opens (x ∷ ls) = is_paren x

-- a token's code, by whether `(` comes next
abbrev pub code : Lexeme → Bool → ℕ
code (sign kind s) next = sign_code kind
code (word n) next = word_code (reserved_of n.letters) next
code (numeral n) next = 2
code (quoted l) next = cond (eqb (length l.characters) 1) 9 3
code (stray s) next = 4
code (finish p) next = 5

-- where it ends
abbrev pub end_of : Lexeme → ℕ
end_of (sign kind s) = s.end
end_of (word n) = n.end
end_of (numeral n) = n.end
end_of (quoted l) = l.end
end_of (stray s) = s.end
end_of (finish p) = p

-- the number that it is, and as the reader keeps it
abbrev pub value_in : Lexeme → ℕ
value_in (sign kind s) = 0
value_in (word n) = 0
value_in (numeral n) = n.value
value_in (quoted l) = 0
value_in (stray s) = 0
value_in (finish p) = 0

abbrev pub value_of : Lexeme → ℕ
value_of x = capped (value_in x)

-- the terminal that a token with a code is
abbrev pub seen_with : Lexeme → ℕ → Terminal
seen_with x c = terminal c (place_of x) (end_of x) (value_of x)

-- the terminals that tokens are
unfoldable pub classified : List Lexeme → List Terminal
classified [] = []
classified (x ∷ ls) = seen_with x (code x (opens ls)) ∷ classified ls

-- ---- a token

sees_end : (xs : List ℕ) (t : Token) (k : Kind) → k ≡ Kind.End → t.start ≡ t.end → seen xs (code_of k) t.start t.end ≡ seen_with (finish t.start) 5
unfolding seen
sees_end xs t k e z = rw e (ap (λ (n : ℕ). terminal 5 t.start n 0) (sym z))

-- those after a token
abbrev pub after : ℕ → List ℕ → Lexeme → List Lexeme
after n xs (sign kind s) = lexemes_from n xs s.end
after n xs (word x) = lexemes_from n xs x.end
after n xs (numeral x) = lexemes_from n xs x.end
after n xs (quoted l) = lexemes_from n xs l.end
after n xs (stray s) = lexemes_from n xs s.end
after n xs (finish p) = []

pub begun : (n : ℕ) (xs : List ℕ) (at : ℕ) → lexemes_from (suc n) xs at ≡ lexeme_of xs at ∷ after n xs (lexeme_of xs at)
unfolding lexemes_from
begun n xs at = by (lexeme_of xs at)
  where
    by : (x : Lexeme) → elim x [ sign kind s ↦ sign kind s ∷ lexemes_from n xs s.end | word m ↦ word m ∷ lexemes_from n xs m.end | numeral m ↦ numeral m ∷ lexemes_from n xs m.end | quoted l ↦ quoted l ∷ lexemes_from n xs l.end | stray s ↦ stray s ∷ lexemes_from n xs s.end | finish p ↦ finish p ∷ [] ] ≡ x ∷ after n xs x
    by (sign kind s) = refl
    by (word m) = refl
    by (numeral m) = refl
    by (quoted l) = refl
    by (stray s) = refl
    by (finish p) = refl

-- what a token of each kind is: whether it is `(`; and if it is not the end, which terminal it is and what comes after it
abbrev pub OfKind : ℕ → List ℕ → Token → Kind → Type 0
OfKind n xs t k =
    (is_paren (lexeme_as xs t k) ≡ eqb (code_of k) 40)
    × (live (code_of k) ≡ true → (seen xs (code_of k) t.start t.end ≡ seen_with (lexeme_as xs t k) (code (lexeme_as xs t k) (opens_at xs t.end))) × (after n xs (lexeme_as xs t k) ≡ lexemes_from n xs t.end))

pub of_kind : (n : ℕ) (xs : List ℕ) (t : Token) (k : Kind) → OfKind n xs t k
unfolding seen name_code literal_code
of_kind n xs t Kind.Name = (refl, λ l. (refl, refl))
of_kind n xs t Kind.Number = (refl, λ l. (refl, refl))
of_kind n xs t Kind.Literal = (refl, λ l. (refl, refl))
of_kind n xs t Kind.Fault = (refl, λ l. (refl, refl))
of_kind n xs t Kind.End = (refl, λ l. let z : ◌≡◌ {A = ℕ} 0 1 = cc in absurd (omega arith))
of_kind n xs t Kind.Equal = (refl, λ l. (refl, refl))
of_kind n xs t Kind.Semicolon = (refl, λ l. (refl, refl))
of_kind n xs t Kind.Bar = (refl, λ l. (refl, refl))
of_kind n xs t Kind.Ampersand = (refl, λ l. (refl, refl))
of_kind n xs t Kind.OpenParen = (refl, λ l. (refl, refl))
of_kind n xs t Kind.CloseParen = (refl, λ l. (refl, refl))
of_kind n xs t Kind.OpenBracket = (refl, λ l. (refl, refl))
of_kind n xs t Kind.CloseBracket = (refl, λ l. (refl, refl))
of_kind n xs t Kind.OpenBrace = (refl, λ l. (refl, refl))
of_kind n xs t Kind.CloseBrace = (refl, λ l. (refl, refl))
of_kind n xs t Kind.Question = (refl, λ l. (refl, refl))
of_kind n xs t Kind.Star = (refl, λ l. (refl, refl))
of_kind n xs t Kind.Plus = (refl, λ l. (refl, refl))
of_kind n xs t Kind.Minus = (refl, λ l. (refl, refl))
of_kind n xs t Kind.Tilde = (refl, λ l. (refl, refl))
of_kind n xs t Kind.Bang = (refl, λ l. (refl, refl))
of_kind n xs t Kind.Comma = (refl, λ l. (refl, refl))
of_kind n xs t Kind.Colon = (refl, λ l. (refl, refl))
of_kind n xs t Kind.Less = (refl, λ l. (refl, refl))
of_kind n xs t Kind.Greater = (refl, λ l. (refl, refl))
of_kind n xs t Kind.Unequal = (refl, λ l. (refl, refl))
of_kind n xs t Kind.AtMost = (refl, λ l. (refl, refl))
of_kind n xs t Kind.AtLeast = (refl, λ l. (refl, refl))

opening : (n : ℕ) (xs : List ℕ) (at : ℕ) → length xs - at < n → opens (lexemes_from n xs at) ≡ opens_at xs at
opening zero xs at f = absurd (omega arith)
opening (suc n) xs at f = ap opens (begun n xs at) ∙ (of_kind n xs (token_of xs at) (token_of xs at).kind).0

-- ---- all tokens

-- a terminal and those after it
abbrev shown : ℕ → List ℕ → Terminal → List Terminal
shown n xs s = s ∷ elim (eqb s.code 5) [ true ↦ [] | false ↦ terminals n xs s.end ]

going : (n : ℕ) (xs : List ℕ) (s : Terminal) (e : ℕ) → eqb s.code 5 ≡ false → s.end ≡ e → shown n xs s ≡ s ∷ terminals n xs e
going n xs s e f z = rw (f, z)

module _ (n : ℕ) (xs : List ℕ) (t : Token) where
  last : t.kind ≡ Kind.End → t.start ≡ t.end → shown n xs (seen xs (code_of t.kind) t.start t.end) ≡ classified (lexeme_as xs t t.kind ∷ after n xs (lexeme_as xs t t.kind))
  unfolding classified
  last e z =
      rw (sees_end xs t t.kind e z)
      (let f : lexeme_as xs t t.kind ≡ finish t.start = ap (λ (k : Kind). lexeme_as xs t k) e in rw f)

  turn : live (code_of t.kind) ≡ true → opens (lexemes_from n xs t.end) ≡ opens_at xs t.end → terminals n xs t.end ≡ classified (lexemes_from n xs t.end) → shown n xs (seen xs (code_of t.kind) t.start t.end) ≡ classified (lexeme_as xs t t.kind ∷ after n xs (lexeme_as xs t t.kind))
  unfolding classified
  turn l o h =
      let s = seen xs (code_of t.kind) t.start t.end in
      let x = lexeme_as xs t t.kind in
      let v = seen_as xs (code_of t.kind) t.start t.end in
      let k = (of_kind n xs t t.kind).1 l in
      going n xs s t.end (live_end s.code (v.is_live l)) v.end_is
      ∙ ap₂ (λ (a : Terminal) (b : List Terminal). a ∷ b) (k.0 ∙ ap (λ (b : Bool). seen_with x (code x b)) (sym o ∙ ap opens (sym k.1))) (h ∙ ap classified (sym k.1))

all : (n : ℕ) (xs : List ℕ) (at : ℕ) → length xs - at < n → terminals n xs at ≡ classified (lexemes_from n xs at)
unfolding terminals terminal_of
all zero xs at f = absurd (omega arith)
all (suc n) xs at f = by (stands xs at) (λ l. all n xs (token_of xs at).end l) ∙ ap classified (sym (begun n xs at))
  where
    by : Stands xs at (token_of xs at) → (length xs - (token_of xs at).end < n → terminals n xs (token_of xs at).end ≡ classified (lexemes_from n xs (token_of xs at).end)) → shown n xs (terminal_of xs at) ≡ classified (lexeme_of xs at ∷ after n xs (lexeme_of xs at))
    by (ended e z) h = last n xs (token_of xs at) e z
    by (moving l a m i) h =
        let less : length xs - (token_of xs at).end < n = omega arith
        in turn n xs (token_of xs at) l (opening n xs (token_of xs at).end less) (h less)

-- the reader's terminals are the classified tokens of the text
pub terminals_classified : (xs : List ℕ) → terminals_from xs 0 ≡ classified (lexemes xs)
terminals_classified xs = all (suc (length xs)) xs 0 (omega arith)
