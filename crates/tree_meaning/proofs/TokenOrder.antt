-- The tokens of a text stand in the order of their places, so the constructs of its tree do: "numbered from 0 in text order, the outer before the inner".
-- Assumes nothing.
use Prim.Native.Nat.{ℕ, zero, suc, ◌≤◌}
use mathlib.Core.Path.{◌≡◌, refl, sym, ◌∙◌}
use mathlib.Core.List.{List, [], ◌∷◌}
use native.Mathlib.Omega.{arith}
use lib.ListN.{length}
use Rattle.text_tokens.specs.Tokens.{token_of}
use Rattle.text_tokens.specs.declared.Kind.{Kind}
use Rattle.text_tokens.specs.declared.Token.{Token}
use Rattle.text_tokens.proofs.Bounds.{Placed, placed}
use Rattle.tree.specs.Lexemes.{Lexeme, sign, word, numeral, quoted, stray, finish, place_of, lexeme_as, lexemes_from, lexemes}

-- each begins after the one before it begins, and not before `low`
pub data Ascending : ℕ → List Lexeme → Type 0 where
  no_more : {low : ℕ} → Ascending low []
  next : {low : ℕ} {t : Lexeme} {w : List Lexeme} → low ≤ place_of t → Ascending (suc (place_of t)) w → Ascending low (t ∷ w)

pub from_lower : {low high : ℕ} {w : List Lexeme} → low ≤ high → Ascending high w → Ascending low w
from_lower h no_more = no_more
from_lower {low} h (next {t} p more) = let q : low ≤ place_of t = omega (arith, h, p) in next {t = t} q more

-- ---- the tokens of a text

module _ (most : ℕ) (xs : List ℕ) (at : ℕ) (t : Token) (placed-there : Placed xs at t) (rest : t.end ≤ length xs → Ascending t.end (lexemes_from most xs t.end)) where
  -- a token that takes a byte
  one : (x : Lexeme) → place_of x ≡ t.start → (t.kind ≡ Kind.End → ⊥) → Ascending at (x ∷ lexemes_from most xs t.end)
  one x e f =
      let m = placed-there.moves f in
      let q : at ≤ place_of x = omega (arith, e, placed-there.after) in
      let l : suc (place_of x) ≤ t.end = omega (arith, e, m) in
      next {t = x} q (from_lower l (rest placed-there.inside))

  by_kind : (k : Kind) → t.kind ≡ k
      → Ascending at (elim (lexeme_as xs t k) [
        | sign kind s ↦ sign kind s ∷ lexemes_from most xs s.end
        | word n ↦ word n ∷ lexemes_from most xs n.end
        | numeral n ↦ numeral n ∷ lexemes_from most xs n.end
        | quoted l ↦ quoted l ∷ lexemes_from most xs l.end
        | stray s ↦ stray s ∷ lexemes_from most xs s.end
        | finish p ↦ finish p ∷ []
      ])
  by_kind Kind.Name e = one (lexeme_as xs t Kind.Name) refl (λ f. let c : Kind.Name ≡ Kind.End = sym e ∙ f in let z : ◌≡◌ {A = ℕ} 0 1 = cc in absurd (omega arith))
  by_kind Kind.Number e = one (lexeme_as xs t Kind.Number) refl (λ f. let c : Kind.Number ≡ Kind.End = sym e ∙ f in let z : ◌≡◌ {A = ℕ} 0 1 = cc in absurd (omega arith))
  by_kind Kind.Literal e = one (lexeme_as xs t Kind.Literal) refl (λ f. let c : Kind.Literal ≡ Kind.End = sym e ∙ f in let z : ◌≡◌ {A = ℕ} 0 1 = cc in absurd (omega arith))
  by_kind Kind.Fault e = one (lexeme_as xs t Kind.Fault) refl (λ f. let c : Kind.Fault ≡ Kind.End = sym e ∙ f in let z : ◌≡◌ {A = ℕ} 0 1 = cc in absurd (omega arith))
  by_kind Kind.Equal e = one (lexeme_as xs t Kind.Equal) refl (λ f. let c : Kind.Equal ≡ Kind.End = sym e ∙ f in let z : ◌≡◌ {A = ℕ} 0 1 = cc in absurd (omega arith))
  by_kind Kind.Semicolon e = one (lexeme_as xs t Kind.Semicolon) refl (λ f. let c : Kind.Semicolon ≡ Kind.End = sym e ∙ f in let z : ◌≡◌ {A = ℕ} 0 1 = cc in absurd (omega arith))
  by_kind Kind.Bar e = one (lexeme_as xs t Kind.Bar) refl (λ f. let c : Kind.Bar ≡ Kind.End = sym e ∙ f in let z : ◌≡◌ {A = ℕ} 0 1 = cc in absurd (omega arith))
  by_kind Kind.Ampersand e = one (lexeme_as xs t Kind.Ampersand) refl (λ f. let c : Kind.Ampersand ≡ Kind.End = sym e ∙ f in let z : ◌≡◌ {A = ℕ} 0 1 = cc in absurd (omega arith))
  by_kind Kind.OpenParen e = one (lexeme_as xs t Kind.OpenParen) refl (λ f. let c : Kind.OpenParen ≡ Kind.End = sym e ∙ f in let z : ◌≡◌ {A = ℕ} 0 1 = cc in absurd (omega arith))
  by_kind Kind.CloseParen e = one (lexeme_as xs t Kind.CloseParen) refl (λ f. let c : Kind.CloseParen ≡ Kind.End = sym e ∙ f in let z : ◌≡◌ {A = ℕ} 0 1 = cc in absurd (omega arith))
  by_kind Kind.OpenBracket e = one (lexeme_as xs t Kind.OpenBracket) refl (λ f. let c : Kind.OpenBracket ≡ Kind.End = sym e ∙ f in let z : ◌≡◌ {A = ℕ} 0 1 = cc in absurd (omega arith))
  by_kind Kind.CloseBracket e = one (lexeme_as xs t Kind.CloseBracket) refl (λ f. let c : Kind.CloseBracket ≡ Kind.End = sym e ∙ f in let z : ◌≡◌ {A = ℕ} 0 1 = cc in absurd (omega arith))
  by_kind Kind.OpenBrace e = one (lexeme_as xs t Kind.OpenBrace) refl (λ f. let c : Kind.OpenBrace ≡ Kind.End = sym e ∙ f in let z : ◌≡◌ {A = ℕ} 0 1 = cc in absurd (omega arith))
  by_kind Kind.CloseBrace e = one (lexeme_as xs t Kind.CloseBrace) refl (λ f. let c : Kind.CloseBrace ≡ Kind.End = sym e ∙ f in let z : ◌≡◌ {A = ℕ} 0 1 = cc in absurd (omega arith))
  by_kind Kind.Question e = one (lexeme_as xs t Kind.Question) refl (λ f. let c : Kind.Question ≡ Kind.End = sym e ∙ f in let z : ◌≡◌ {A = ℕ} 0 1 = cc in absurd (omega arith))
  by_kind Kind.Star e = one (lexeme_as xs t Kind.Star) refl (λ f. let c : Kind.Star ≡ Kind.End = sym e ∙ f in let z : ◌≡◌ {A = ℕ} 0 1 = cc in absurd (omega arith))
  by_kind Kind.Plus e = one (lexeme_as xs t Kind.Plus) refl (λ f. let c : Kind.Plus ≡ Kind.End = sym e ∙ f in let z : ◌≡◌ {A = ℕ} 0 1 = cc in absurd (omega arith))
  by_kind Kind.Minus e = one (lexeme_as xs t Kind.Minus) refl (λ f. let c : Kind.Minus ≡ Kind.End = sym e ∙ f in let z : ◌≡◌ {A = ℕ} 0 1 = cc in absurd (omega arith))
  by_kind Kind.Tilde e = one (lexeme_as xs t Kind.Tilde) refl (λ f. let c : Kind.Tilde ≡ Kind.End = sym e ∙ f in let z : ◌≡◌ {A = ℕ} 0 1 = cc in absurd (omega arith))
  by_kind Kind.Bang e = one (lexeme_as xs t Kind.Bang) refl (λ f. let c : Kind.Bang ≡ Kind.End = sym e ∙ f in let z : ◌≡◌ {A = ℕ} 0 1 = cc in absurd (omega arith))
  by_kind Kind.Comma e = one (lexeme_as xs t Kind.Comma) refl (λ f. let c : Kind.Comma ≡ Kind.End = sym e ∙ f in let z : ◌≡◌ {A = ℕ} 0 1 = cc in absurd (omega arith))
  by_kind Kind.Colon e = one (lexeme_as xs t Kind.Colon) refl (λ f. let c : Kind.Colon ≡ Kind.End = sym e ∙ f in let z : ◌≡◌ {A = ℕ} 0 1 = cc in absurd (omega arith))
  by_kind Kind.Less e = one (lexeme_as xs t Kind.Less) refl (λ f. let c : Kind.Less ≡ Kind.End = sym e ∙ f in let z : ◌≡◌ {A = ℕ} 0 1 = cc in absurd (omega arith))
  by_kind Kind.Greater e = one (lexeme_as xs t Kind.Greater) refl (λ f. let c : Kind.Greater ≡ Kind.End = sym e ∙ f in let z : ◌≡◌ {A = ℕ} 0 1 = cc in absurd (omega arith))
  by_kind Kind.Unequal e = one (lexeme_as xs t Kind.Unequal) refl (λ f. let c : Kind.Unequal ≡ Kind.End = sym e ∙ f in let z : ◌≡◌ {A = ℕ} 0 1 = cc in absurd (omega arith))
  by_kind Kind.AtMost e = one (lexeme_as xs t Kind.AtMost) refl (λ f. let c : Kind.AtMost ≡ Kind.End = sym e ∙ f in let z : ◌≡◌ {A = ℕ} 0 1 = cc in absurd (omega arith))
  by_kind Kind.AtLeast e = one (lexeme_as xs t Kind.AtLeast) refl (λ f. let c : Kind.AtLeast ≡ Kind.End = sym e ∙ f in let z : ◌≡◌ {A = ℕ} 0 1 = cc in absurd (omega arith))
  by_kind Kind.End e = next placed-there.after no_more

pub tokens_ascend : (most : ℕ) (xs : List ℕ) (at : ℕ) → at ≤ length xs → Ascending at (lexemes_from most xs at)
unfolding lexemes_from
tokens_ascend zero xs at h = no_more
tokens_ascend (suc most) xs at h =
    by_kind most xs at (token_of xs at) (placed xs at h) (λ l. tokens_ascend most xs (token_of xs at).end l) (token_of xs at).kind refl

pub text_ascends : (xs : List ℕ) → Ascending 0 (lexemes xs)
text_ascends xs = tokens_ascend (suc (length xs)) xs 0 (omega arith)
