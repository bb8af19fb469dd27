-- Where terminals stand, and how many more may come.
-- Assumes nothing.
use Prim.Native.Nat.{ℕ, zero, suc, ◌-◌, ◌≤◌, ◌<◌}
use mathlib.Core.Path.{◌≡◌, refl, sym, ap, subst}
use mathlib.Core.Logic.{◌⊎◌, inl, inr, ⊎_elim}
use mathlib.Core.Bool.{Bool, true, false, cond, ◌||◌}
use mathlib.Core.List.{List, [], ◌∷◌}
use native.Mathlib.Omega.{arith}
use borrow.Author.Tests.{eqb-true, leb-true, leb-false, ltb-true}
use lib.Dec.{eqb, leb, ltb}
use lib.ListN.{length, drop, drop_of_length-le}
use Rattle.basis.proofs.Booleans.{which, either_way}
use Rattle.text_tokens.specs.Names.{reserved_of, name_of}
use Rattle.text_tokens.specs.Tokens.{gap_end, token, token_from, token_of}
use Rattle.text_tokens.specs.declared.Kind.{Kind}
use Rattle.text_tokens.specs.declared.Token.{Token}
use Rattle.text_tokens.proofs.Bounds.{Placed, placed}
use Rattle.text_literals.specs.Literals.{characters_at}
use Rattle.text_parsing.specs.Terminals.{code_of, opens_at, name_code, literal_code, seen, terminal_of, terminals, terminals_from, terminals_after, live}
use Rattle.text_parsing.specs.declared.Terminal.{Terminal}

-- a kind is the end's, or neither a failure nor the end
pub kind_live : (k : Kind) → (k ≡ Kind.End) ⊎ (live (code_of k) ≡ true)
kind_live Kind.Name = inr refl
kind_live Kind.Number = inr refl
kind_live Kind.Literal = inr refl
kind_live Kind.Equal = inr refl
kind_live Kind.Semicolon = inr refl
kind_live Kind.Bar = inr refl
kind_live Kind.Ampersand = inr refl
kind_live Kind.OpenParen = inr refl
kind_live Kind.CloseParen = inr refl
kind_live Kind.OpenBracket = inr refl
kind_live Kind.CloseBracket = inr refl
kind_live Kind.OpenBrace = inr refl
kind_live Kind.CloseBrace = inr refl
kind_live Kind.Question = inr refl
kind_live Kind.Star = inr refl
kind_live Kind.Plus = inr refl
kind_live Kind.Minus = inr refl
kind_live Kind.Tilde = inr refl
kind_live Kind.Bang = inr refl
kind_live Kind.Comma = inr refl
kind_live Kind.Colon = inr refl
kind_live Kind.Less = inr refl
kind_live Kind.Greater = inr refl
kind_live Kind.Unequal = inr refl
kind_live Kind.AtMost = inr refl
kind_live Kind.AtLeast = inr refl
kind_live Kind.Fault = inr refl
kind_live Kind.End = inl refl

abbrev Live : ℕ → Type 0
Live n = live n ≡ true

name_live : (xs : List ℕ) (start end : ℕ) → Live (name_code xs start end)
unfolding name_code
name_live xs start end =
    either_way Live (eqb (reserved_of (name_of xs start end)) 12 || eqb (reserved_of (name_of xs start end)) 13) (either_way Live (opens_at xs end) refl refl)
    (either_way Live (eqb (reserved_of (name_of xs start end)) 9) (either_way Live (opens_at xs end) refl refl) (either_way Live (eqb (reserved_of (name_of xs start end)) 10) refl refl))

literal_live : (xs : List ℕ) (start : ℕ) → Live (literal_code xs start)
unfolding literal_code
literal_live xs start = either_way Live (eqb (length (characters_at xs start)) 1) refl refl

-- the terminal of a token
pub record Seen (xs : List ℕ) (code start end : ℕ) (s : Terminal) : Type 0 where
  pub start_is : s.start ≡ start
  pub end_is : s.end ≡ end
  pub is_live : live code ≡ true → live s.code ≡ true

seen_chosen : {xs : List ℕ} {code start end : ℕ} (b : Bool) {s t : Terminal} → Seen xs code start end s → Seen xs code start end t → Seen xs code start end (cond b s t)
seen_chosen true p q = p
seen_chosen false p q = q

pub seen_as : (xs : List ℕ) (code start end : ℕ) → Seen xs code start end (seen xs code start end)
unfolding seen
seen_as xs code start end =
    seen_chosen (eqb code 1) (record { start_is = refl; end_is = refl; is_live = λ h. name_live xs start end })
    (seen_chosen (eqb code 2) (record { start_is = refl; end_is = refl; is_live = λ h. refl })
    (seen_chosen (eqb code 3) (record { start_is = refl; end_is = refl; is_live = λ h. literal_live xs start }) (record { start_is = refl; end_is = refl; is_live = λ h. h })))

-- a token is the end, or it takes a byte
pub data Stands (xs : List ℕ) (at : ℕ) (t : Token) : Type 0 where
  ended : t.kind ≡ Kind.End → t.start ≡ t.end → Stands xs at t
  moving : live (code_of t.kind) ≡ true → at ≤ t.start → t.start < t.end → t.end ≤ length xs → Stands xs at t

none_from : (xs : List ℕ) (i : ℕ) → length xs ≤ i → token_from xs i ≡ token i i Kind.End
none_from xs i h = ⊎_elim (λ e. absurd (omega (arith, ltb-true i (length xs) e))) (λ (e : ltb i (length xs) ≡ false). rw (e, token_from)) (which (ltb i (length xs)))

past : (xs : List ℕ) (at : ℕ) → length xs < at → Stands xs at (token_of xs at)
unfolding token_of gap_end
past xs at l =
    let d : drop at xs ≡ [] = drop_of_length-le xs {i = at} (omega arith)
    in rw d (subst (Stands xs at) (sym (none_from xs at (omega arith))) (ended refl refl))

inside : (xs : List ℕ) (at : ℕ) → Placed xs at (token_of xs at) → ((token_of xs at).kind ≡ Kind.End) ⊎ (live (code_of (token_of xs at).kind) ≡ true) → Stands xs at (token_of xs at)
inside xs at p (inl e) = ended e (omega (arith, p.ends e, p.ordered, p.inside))
inside xs at p (inr e) =
    moving e p.after
    (p.moves (λ z. let w : live (code_of Kind.End) ≡ true = subst (λ (k : Kind). live (code_of k) ≡ true) z e in let v : ◌≡◌ {A = ℕ} 0 1 = cc in omega arith))
    p.inside

pub stands : (xs : List ℕ) (at : ℕ) → Stands xs at (token_of xs at)
stands xs at =
    ⊎_elim (λ e. inside xs at (placed xs at (leb-true at (length xs) e)) (kind_live (token_of xs at).kind)) (λ e. past xs at (leb-false at (length xs) e)) (which (leb at (length xs)))

-- the same of terminals
pub data Shows (xs : List ℕ) (at : ℕ) (s : Terminal) : Type 0 where
  end_shown : s.code ≡ 5 → Shows xs at s
  live_shown : live s.code ≡ true → at < s.end → s.end ≤ length xs → Shows xs at s

last_seen : (xs : List ℕ) (k : Kind) (start end : ℕ) → k ≡ Kind.End → (seen xs (code_of k) start end).code ≡ 5
unfolding seen
last_seen xs k start end z = rw z

shown : (xs : List ℕ) (at : ℕ) (t : Token) → Stands xs at t → Shows xs at (seen xs (code_of t.kind) t.start t.end)
shown xs at t (ended e z) = end_shown (last_seen xs t.kind t.start t.end e)
shown xs at t (moving l a m i) =
    let s : Seen xs (code_of t.kind) t.start t.end (seen xs (code_of t.kind) t.start t.end) = seen_as xs (code_of t.kind) t.start t.end
    in live_shown (s.is_live l) (omega (arith, s.end_is)) (omega (arith, s.end_is))

pub shows : (xs : List ℕ) (at : ℕ) → Shows xs at (terminal_of xs at)
unfolding terminal_of
shows xs at = shown xs at (token_of xs at) (stands xs at)

-- ---- enough is enough

pub live_end : (n : ℕ) → live n ≡ true → eqb n 5 ≡ false
live_end n e = ⊎_elim (λ (z : eqb n 5 ≡ true). absurd (dead n (eqb-true n 5 z) e)) (λ z. z) (which (eqb n 5))
  where
    dead : (k : ℕ) → k ≡ 5 → live k ≡ true → ⊥
    dead k z l = let w : live 5 ≡ true = subst (λ (j : ℕ). live j ≡ true) z l in let v : ◌≡◌ {A = ℕ} 0 1 = cc in omega arith

-- what a terminal is followed by, n more at most
abbrev tail : ℕ → List ℕ → Terminal → List Terminal
tail n xs s = elim (eqb s.code 5) [ true ↦ [] | false ↦ terminals n xs s.end ]

same_tail : (f g : ℕ) (xs : List ℕ) (at : ℕ) (s : Terminal) → Shows xs at s → (at < s.end → s.end ≤ length xs → terminals f xs s.end ≡ terminals g xs s.end) → tail f xs s ≡ tail g xs s
same_tail f g xs at s (end_shown e) h = rw (e, tail)
same_tail f g xs at s (live_shown l m i) h = rw (live_end s.code l, tail) (h m i)

pub terminals_fuel : (f g : ℕ) (xs : List ℕ) (at : ℕ) → length xs - at < f → length xs - at < g → terminals f xs at ≡ terminals g xs at
unfolding terminals
terminals_fuel zero g xs at a b = absurd (omega arith)
terminals_fuel (suc f) zero xs at a b = absurd (omega arith)
terminals_fuel (suc f) (suc g) xs at a b =
    ap (λ (l : List Terminal). terminal_of xs at ∷ l)
    (same_tail f g xs at (terminal_of xs at) (shows xs at) (λ m i. terminals_fuel f g xs (terminal_of xs at).end (omega arith) (omega arith)))

-- the terminals from a place on are the one there and those after it
pub terminals_on : (xs : List ℕ) (at : ℕ) → terminals_from xs at ≡ terminal_of xs at ∷ terminals_after xs (terminal_of xs at)
unfolding terminals terminals_after
terminals_on xs at =
    ap (λ (l : List Terminal). terminal_of xs at ∷ l)
    (same_tail (length xs) (suc (length xs)) xs at (terminal_of xs at) (shows xs at)
    (λ m i. terminals_fuel (length xs) (suc (length xs)) xs (terminal_of xs at).end (omega arith) (omega arith)))
