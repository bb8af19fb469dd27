-- Where names stand in a text, and how many characters its literals have.
-- Assumes nothing.
use Prim.Native.Nat.{ℕ, ◌≤◌, ◌<◌}
use mathlib.Core.Path.{◌≡◌, refl, sym, ap, subst, ◌∙◌}
use mathlib.Core.Logic.{◌⊎◌, ⊎_elim}
use mathlib.Core.Bool.{Bool, true, false, ◌||◌}
use mathlib.Core.List.{List}
use native.Mathlib.Omega.{arith}
use borrow.Author.Tests.{eqb-true}
use lib.Dec.{eqb}
use lib.ListN.{length}
use Rattle.basis.specs.Limits.{max_literal_bytes}
use Rattle.basis.proofs.Booleans.{picked}
use Rattle.text_literals.specs.Literals.{characters_at}
use Rattle.text_tokens.specs.Names.{reserved_of, name_of}
use Rattle.text_tokens.specs.Tokens.{token_of}
use Rattle.text_tokens.specs.declared.Kind.{Kind}
use Rattle.text_tokens.specs.declared.Token.{Token}
use Rattle.text_tokens.proofs.Bounds.{placed}
use Rattle.text_parsing.specs.Terminals.{code_of, opens_at, name_code, seen, terminal_of, live}
use Rattle.text_parsing.specs.declared.Terminal.{Terminal}
use Rattle.text_parsing.proofs.TerminalLaws.{seen_as, Stands, ended, moving, stands}
use Rattle.text_parsing.proofs.Loops.{name_live}
use Rattle.text_productions.specs.Phrases.{Seen}
use Rattle.text_shapes.specs.NodeShapes.{NameAt, NumberAt, CharacterAt, LiteralAt}

never : {A : Type 0} → false ≡ true → A
never e = let z : ◌≡◌ {A = ℕ} 0 1 = cc in absurd (omega arith)

-- ---- a terminal that is neither a failure nor the end stands in the text

at_end : (xs : List ℕ) (k : Kind) (start end : ℕ) → k ≡ Kind.End → live (seen xs (code_of k) start end).code ≡ false
unfolding seen
at_end xs k start end z = rw z

standing : (xs : List ℕ) (at : ℕ) (t : Token) → Stands xs at t → live (seen xs (code_of t.kind) t.start t.end).code ≡ true → (seen xs (code_of t.kind) t.start t.end).start < length xs
standing xs at t (ended e z) l = never (sym (at_end xs t.kind t.start t.end e) ∙ l)
standing xs at t (moving l a m i) k = omega (arith, (seen_as xs (code_of t.kind) t.start t.end).start_is)

place_inside : (xs : List ℕ) (at : ℕ) → live (terminal_of xs at).code ≡ true → (terminal_of xs at).start < length xs
unfolding terminal_of
place_inside xs at l = standing xs at (token_of xs at) (stands xs at) l

-- a terminal that is no end stands in the text
terminal_inside : {xs : List ℕ} {p : ℕ} (s : Terminal) → Seen xs s → live s.code ≡ true → p ≡ s.start → p < length xs
terminal_inside {xs} {p} s k l z =
    let e : s ≡ terminal_of xs k.at = k.seen in
    let h : (terminal_of xs k.at).start < length xs = place_inside xs k.at (subst (λ (v : Terminal). live v.code ≡ true) e l) in
    let y : p ≡ (terminal_of xs k.at).start = z ∙ ap (λ (v : Terminal). v.start) e in
    omega arith

pub name_inside : {xs : List ℕ} {p : ℕ} → NameAt xs p → p < length xs
name_inside k = terminal_inside k.terminal k.seen (name_live k.terminal.code k.name) k.place

pub number_inside : {xs : List ℕ} {p : ℕ} → NumberAt xs p → p < length xs
number_inside k = terminal_inside k.terminal k.seen (rw (eqb-true k.terminal.code 2 k.number) refl) k.place

-- ---- literals

-- a code of a literal
abbrev literal_like : ℕ → Bool
literal_like n = eqb n 3 || eqb n 9

abbrev Other : ℕ → Type 0
Other n = literal_like n ≡ false

name_other : (xs : List ℕ) (start end : ℕ) → Other (name_code xs start end)
unfolding name_code
name_other xs start end =
    picked Other (eqb (reserved_of (name_of xs start end)) 12 || eqb (reserved_of (name_of xs start end)) 13) (λ e. picked Other (opens_at xs end) (λ e. refl) (λ e. refl))
    (λ e. picked Other (eqb (reserved_of (name_of xs start end)) 9) (λ e. picked Other (opens_at xs end) (λ e. refl) (λ e. refl))
    (λ e. picked Other (eqb (reserved_of (name_of xs start end)) 10) (λ e. refl) (λ e. refl)))

-- only a literal's token has one
is_literal : (xs : List ℕ) (start end : ℕ) (k : Kind) → literal_like (seen xs (code_of k) start end).code ≡ true → k ≡ Kind.Literal
unfolding seen
is_literal xs start end Kind.Name e = never (sym (name_other xs start end) ∙ e)
is_literal xs start end Kind.Number e = never e
is_literal xs start end Kind.Literal e = refl
is_literal xs start end Kind.Equal e = never e
is_literal xs start end Kind.Semicolon e = never e
is_literal xs start end Kind.Bar e = never e
is_literal xs start end Kind.Ampersand e = never e
is_literal xs start end Kind.OpenParen e = never e
is_literal xs start end Kind.CloseParen e = never e
is_literal xs start end Kind.OpenBracket e = never e
is_literal xs start end Kind.CloseBracket e = never e
is_literal xs start end Kind.OpenBrace e = never e
is_literal xs start end Kind.CloseBrace e = never e
is_literal xs start end Kind.Question e = never e
is_literal xs start end Kind.Star e = never e
is_literal xs start end Kind.Plus e = never e
is_literal xs start end Kind.Minus e = never e
is_literal xs start end Kind.Tilde e = never e
is_literal xs start end Kind.Bang e = never e
is_literal xs start end Kind.Comma e = never e
is_literal xs start end Kind.Colon e = never e
is_literal xs start end Kind.Less e = never e
is_literal xs start end Kind.Greater e = never e
is_literal xs start end Kind.Unequal e = never e
is_literal xs start end Kind.AtMost e = never e
is_literal xs start end Kind.AtLeast e = never e
is_literal xs start end Kind.Fault e = never e
is_literal xs start end Kind.End e = never e

-- "1 to 32 characters"
abbrev pub Sized : List ℕ → ℕ → Type 0
Sized xs p = (1 ≤ length (characters_at xs p)) × (length (characters_at xs p) ≤ max_literal_bytes)

token_sized : (xs : List ℕ) (at : ℕ) → Stands xs at (token_of xs at) → (token_of xs at).kind ≡ Kind.Literal → Sized xs (token_of xs at).start
token_sized xs at (ended e z) l = let y : Kind.End ≡ Kind.Literal = sym e ∙ l in let w : ◌≡◌ {A = ℕ} 0 1 = cc in absurd (omega arith)
token_sized xs at (moving v a m i) l = (placed xs at (omega arith)).literal l

terminal_sized : (xs : List ℕ) (at : ℕ) → literal_like (terminal_of xs at).code ≡ true → Sized xs (terminal_of xs at).start
unfolding terminal_of
terminal_sized xs at e =
    subst (Sized xs) (sym (seen_as xs (code_of (token_of xs at).kind) (token_of xs at).start (token_of xs at).end).start_is)
    (token_sized xs at (stands xs at) (is_literal xs (token_of xs at).start (token_of xs at).end (token_of xs at).kind e))

seen_sized : {xs : List ℕ} {s : Terminal} {p : ℕ} → Seen xs s → literal_like s.code ≡ true → p ≡ s.start → Sized xs p
seen_sized {xs} {s} {p} k e z =
    subst (Sized xs) (sym (z ∙ ap (λ (v : Terminal). v.start) k.seen)) (terminal_sized xs k.at (subst (λ (v : Terminal). literal_like v.code ≡ true) k.seen e))

pub literal_sized : {xs : List ℕ} {p : ℕ} → LiteralAt xs p ⊎ CharacterAt xs p → Sized xs p
literal_sized {xs} {p} k =
    ⊎_elim (λ (l : LiteralAt xs p). seen_sized l.seen (rw (eqb-true l.terminal.code 3 l.literal)) l.place)
    (λ (l : CharacterAt xs p). seen_sized l.seen (rw (eqb-true l.terminal.code 9 l.character)) l.place)
    k
