-- Where tokens stand: a token begins at or after its place, ends within the bytes, and is empty only at the end.
-- Assumes nothing.
use Prim.Native.Nat.{ℕ, ◌+◌, ◌-◌, ◌≤◌, ◌<◌}
use mathlib.Core.Path.{◌≡◌, refl, sym, ap, subst, ◌∙◌}
use mathlib.Core.Logic.{⊎_elim}
use mathlib.Core.Bool.{Bool, true, false, ◌&&◌, ◌||◌}
use mathlib.Core.List.{List}
use native.Mathlib.Omega.{arith}
use borrow.Author.Tests.{lt-ltb, ltb-true, ltb-false, leb-true, eqb-true, eqb-false}
use lib.Dec.{leb, ltb, eqb}
use lib.ListN.{length, get_or, drop, length-drop, get_or-eq_default}
use Rattle.basis.specs.Limits.{max_name_bytes, max_literal_bytes}
use Rattle.basis.proofs.Booleans.{both_first, both_second, which, picked}
use Rattle.text_header.specs.Bytes.{is_letter, is_digit, lower_case, in_radix}
use Rattle.text_header.specs.Spans.{span_end}
use Rattle.text_header.specs.declared.Class.{Class}
use Rattle.text_header.proofs.Runs.{span_turn, span_grows, span_within}
use Rattle.text_header.proofs.Tests.{within_low, within_high}
use Rattle.text_literals.specs.Literals.{is_quote, literal_at, is_right, characters_at}
use Rattle.text_literals.specs.declared.Part.{Part}
use Rattle.text_literals.proofs.Reaches.{reach_grows, reach_fits}
use Rattle.text_literals.proofs.Sizes.{right_sized}
use Rattle.text_tokens.specs.Numbers.{named_radix, radix_at, digits_at, number_end_of}
use Rattle.text_tokens.specs.Tokens.{gap_end, is_pair, pair_of, sign_of, name_token, number_token, literal_token, sign_token, token_begun, token_of}
use Rattle.text_tokens.specs.declared.Kind.{Kind}
use Rattle.text_tokens.specs.declared.Token.{Token}
use Rattle.text_tokens.proofs.Found.{from_some, from_none}
use Rattle.text_tokens.proofs.Gapped.{gap_grows, gap_fits}

-- a byte that is not 0 stands before the end
pub byte_inside : (xs : List ℕ) (i : ℕ) → (get_or xs i 0 ≡ 0 → ⊥) → i < length xs
byte_inside xs i h = ⊎_elim (λ e. ltb-true i (length xs) e) (λ e. absurd (h (get_or-eq_default xs 0 (ltb-false i (length xs) e)))) (which (ltb i (length xs)))

-- ---- kinds: what holds of a token from i up to e; one that begins is not the end

abbrev pub Fine : List ℕ → ℕ → ℕ → Kind → Type 0
Fine xs i e Kind.Name = e ≤ i + max_name_bytes
Fine xs i e Kind.Number = Unit {0}
Fine xs i e Kind.Literal = (1 ≤ length (characters_at xs i)) × (length (characters_at xs i) ≤ max_literal_bytes)
Fine xs i e Kind.Equal = Unit {0}
Fine xs i e Kind.Semicolon = Unit {0}
Fine xs i e Kind.Bar = Unit {0}
Fine xs i e Kind.Ampersand = Unit {0}
Fine xs i e Kind.OpenParen = Unit {0}
Fine xs i e Kind.CloseParen = Unit {0}
Fine xs i e Kind.OpenBracket = Unit {0}
Fine xs i e Kind.CloseBracket = Unit {0}
Fine xs i e Kind.OpenBrace = Unit {0}
Fine xs i e Kind.CloseBrace = Unit {0}
Fine xs i e Kind.Question = Unit {0}
Fine xs i e Kind.Star = Unit {0}
Fine xs i e Kind.Plus = Unit {0}
Fine xs i e Kind.Minus = Unit {0}
Fine xs i e Kind.Tilde = Unit {0}
Fine xs i e Kind.Bang = Unit {0}
Fine xs i e Kind.Comma = Unit {0}
Fine xs i e Kind.Colon = Unit {0}
Fine xs i e Kind.Less = Unit {0}
Fine xs i e Kind.Greater = Unit {0}
Fine xs i e Kind.Unequal = Unit {0}
Fine xs i e Kind.AtMost = Unit {0}
Fine xs i e Kind.AtLeast = Unit {0}
Fine xs i e Kind.Fault = Unit {0}
Fine xs i e Kind.End = ⊥

module _ (xs : List ℕ) (i e : ℕ) where
  pair_fine : (b : ℕ) → Fine xs i e (pair_of b)
  pair_fine b = picked (Fine xs i e) (eqb b 33) (λ z. tt) (λ z. picked (Fine xs i e) (eqb b 60) (λ z. tt) (λ z. tt))

  sign_fine : (b : ℕ) → Fine xs i e (sign_of b)
  sign_fine b =
      picked (Fine xs i e) (eqb b 61) (λ z. tt)
      (λ z. picked (Fine xs i e) (eqb b 59) (λ z. tt)
      (λ z. picked (Fine xs i e) (eqb b 124) (λ z. tt)
      (λ z. picked (Fine xs i e) (eqb b 38) (λ z. tt)
      (λ z. picked (Fine xs i e) (eqb b 40) (λ z. tt)
      (λ z. picked (Fine xs i e) (eqb b 41) (λ z. tt)
      (λ z. picked (Fine xs i e) (eqb b 91) (λ z. tt)
      (λ z. picked (Fine xs i e) (eqb b 93) (λ z. tt)
      (λ z. picked (Fine xs i e) (eqb b 123) (λ z. tt)
      (λ z. picked (Fine xs i e) (eqb b 125) (λ z. tt)
      (λ z. picked (Fine xs i e) (eqb b 63) (λ z. tt)
      (λ z. picked (Fine xs i e) (eqb b 42) (λ z. tt)
      (λ z. picked (Fine xs i e) (eqb b 43) (λ z. tt)
      (λ z. picked (Fine xs i e) (eqb b 45) (λ z. tt)
      (λ z. picked (Fine xs i e) (eqb b 126) (λ z. tt)
      (λ z. picked (Fine xs i e) (eqb b 33) (λ z. tt)
      (λ z. picked (Fine xs i e) (eqb b 44) (λ z. tt)
      (λ z. picked (Fine xs i e) (eqb b 58) (λ z. tt)
      (λ z. picked (Fine xs i e) (eqb b 60) (λ z. tt)
      (λ z. picked (Fine xs i e) (eqb b 62) (λ z. tt) (λ z. tt))))))))))))))))))))

-- ---- numbers

named_small : (b : ℕ) → named_radix b ≤ 16
named_small b =
    picked (λ r. r ≤ 16) (eqb (lower_case b) 120) (λ z. omega arith) (λ z.
    picked (λ r. r ≤ 16) (eqb (lower_case b) 111) (λ z. omega arith) (λ z. picked (λ r. r ≤ 16) (eqb (lower_case b) 98) (λ z. omega arith) (λ z. omega arith)))

in_ten : (b : ℕ) → is_digit b ≡ true → in_radix 10 b ≡ true
in_ten b e =
    let low : 48 ≤ b = within_low 48 b 57 e
    in let high : b ≤ 57 = within_high 48 b 57 e
    in rw e (lt-ltb (b - 48) 10 (omega arith))

module _ (xs : List ℕ) (i : ℕ) where
  -- a radix is named
  named : Bool
  named = eqb (get_or xs i 0) 48 && in_radix (named_radix (get_or xs (i + 1) 0)) (get_or xs (i + 2) 0)

  unnamed : named ≡ false → radix_at xs i ≡ 10
  unfolding radix_at named
  unnamed e = rw e

  -- then a digit follows
  named_far : named ≡ true → i + 2 < length xs
  unfolding named
  named_far e =
      byte_inside xs (i + 2)
      (λ z.
      let t : in_radix (named_radix (get_or xs (i + 1) 0)) (get_or xs (i + 2) 0) ≡ true = both_second (eqb (get_or xs i 0) 48) (in_radix (named_radix (get_or xs (i + 1) 0)) (get_or xs (i + 2) 0)) e
      in let u : ltb 16 (named_radix (get_or xs (i + 1) 0)) ≡ true = rw z at t
      in let v : 16 < named_radix (get_or xs (i + 1) 0) = ltb-true 16 (named_radix (get_or xs (i + 1) 0)) u
      in omega (arith, named_small (get_or xs (i + 1) 0)))

  far : eqb (radix_at xs i) 10 ≡ false → i + 2 < length xs
  far f = ⊎_elim (λ e. named_far e) (λ e. absurd (eqb-false (radix_at xs i) 10 f (unnamed e))) (which named)

  digits_here : eqb (radix_at xs i) 10 ≡ true → digits_at xs i ≡ i
  unfolding digits_at
  digits_here e = rw e

  digits_later : eqb (radix_at xs i) 10 ≡ false → digits_at xs i ≡ i + 2
  unfolding digits_at
  digits_later e = rw e

  number_from : (d : ℕ) → digits_at xs i ≡ d → number_end_of xs i ≡ span_end (Class.Digit (radix_at xs i)) d (drop d xs)
  unfolding number_end_of
  number_from d e = ap (λ (k : ℕ). span_end (Class.Digit (radix_at xs i)) k (drop k xs)) e

  number_moves : i < length xs → is_digit (get_or xs i 0) ≡ true → (i < number_end_of xs i) × (number_end_of xs i ≤ length xs)
  number_moves l e =
      ⊎_elim
      (λ t.
      let n : number_end_of xs i ≡ span_end (Class.Digit (radix_at xs i)) i (drop i xs) = number_from i (digits_here t)
      in let first : in_radix (radix_at xs i) (get_or xs i 0) ≡ true = rw (eqb-true (radix_at xs i) 10 t) (in_ten (get_or xs i 0) e)
      in let s = span_turn (Class.Digit (radix_at xs i)) xs i l first
      in let g = span_grows (Class.Digit (radix_at xs i)) (i + 1) (drop (i + 1) xs)
      in let w = span_within (Class.Digit (radix_at xs i)) xs i
      in (omega (arith, n, s, g), omega (arith, n, w)))
      (λ f.
      let n : number_end_of xs i ≡ span_end (Class.Digit (radix_at xs i)) (i + 2) (drop (i + 2) xs) = number_from (i + 2) (digits_later f)
      in let g = span_grows (Class.Digit (radix_at xs i)) (i + 2) (drop (i + 2) xs)
      in let w = span_within (Class.Digit (radix_at xs i)) xs (i + 2)
      in (omega (arith, n, g), omega (arith, n, w, far f)))
      (which (eqb (radix_at xs i) 10))

-- ---- the token that begins at a place

pub record Begun (xs : List ℕ) (i : ℕ) (t : Token) : Type 0 where
  pub here : t.start ≡ i
  pub moves : i < t.end
  pub inside : t.end ≤ length xs
  pub fine : Fine xs i t.end t.kind

module _ (xs : List ℕ) (i : ℕ) (l : i < length xs) where
  name_begun : is_letter (get_or xs i 0) ≡ true → Begun xs i (name_token xs i)
  unfolding name_token
  name_begun e =
      let s : span_end Class.Name i (drop i xs) ≡ span_end Class.Name (i + 1) (drop (i + 1) xs) = span_turn Class.Name xs i l (rw e)
      in record {
        here = refl;
        moves = omega (arith, s, span_grows Class.Name (i + 1) (drop (i + 1) xs));
        inside = omega (arith, span_within Class.Name xs i);
        fine = picked (Fine xs i (span_end Class.Name i (drop i xs))) (leb (span_end Class.Name i (drop i xs) - i) max_name_bytes) (λ z. let h : span_end Class.Name i (drop i xs) - i ≤ max_name_bytes = leb-true (span_end Class.Name i (drop i xs) - i) max_name_bytes z in omega arith) (λ z. tt);
      }

  number_begun : is_digit (get_or xs i 0) ≡ true → Begun xs i (number_token xs i)
  unfolding number_token
  number_begun e = record { here = refl; moves = (number_moves xs i l e).0; inside = (number_moves xs i l e).1; fine = tt }

  literal_begun : Begun xs i (literal_token xs i)
  unfolding literal_token
  literal_begun =
      record {
        here = refl;
        moves = omega (arith, reach_grows (get_or xs i 0) Part.Start 0 (i + 1) (drop (i + 1) xs));
        inside = omega (arith, reach_fits (get_or xs i 0) Part.Start 0 (i + 1) (drop (i + 1) xs), length-drop (i + 1) xs);
        fine = picked (Fine xs i (literal_at xs i).end) (is_right (literal_at xs i)) (λ z. right_sized xs i z) (λ z. tt);
      }

  sign_begun : Begun xs i (sign_token xs i)
  unfolding sign_token
  sign_begun =
      ⊎_elim
      (λ (e : is_pair (get_or xs i 0) (get_or xs (i + 1) 0) ≡ true).
      let c : get_or xs (i + 1) 0 ≡ 61 = eqb-true (get_or xs (i + 1) 0) 61 (both_first (eqb (get_or xs (i + 1) 0) 61) (eqb (get_or xs i 0) 33 || (eqb (get_or xs i 0) 60 || eqb (get_or xs i 0) 62)) e)
      in let far : i + 1 < length xs = byte_inside xs (i + 1) (λ z. let w : 61 ≡ 0 = sym c ∙ z in omega arith)
      in rw (e, sign_token) (record { here = refl; moves = omega arith; inside = omega arith; fine = pair_fine xs i (i + 2) (get_or xs i 0) }))
      (λ (e : is_pair (get_or xs i 0) (get_or xs (i + 1) 0) ≡ false). rw (e, sign_token) (record { here = refl; moves = omega arith; inside = omega arith; fine = sign_fine xs i (i + 1) (get_or xs i 0) }))
      (which (is_pair (get_or xs i 0) (get_or xs (i + 1) 0)))

  pub begun : Begun xs i (token_begun xs i)
  unfolding token_begun
  begun =
      ⊎_elim (λ (e : is_letter (get_or xs i 0) ≡ true). rw (e, token_begun) (name_begun e))
      (λ (e : is_letter (get_or xs i 0) ≡ false).
      ⊎_elim (λ (f : is_digit (get_or xs i 0) ≡ true). rw (e, f, token_begun) (number_begun f))
      (λ (f : is_digit (get_or xs i 0) ≡ false).
      ⊎_elim (λ (g : is_quote (get_or xs i 0) ≡ true). rw (e, f, g, token_begun) literal_begun) (λ (g : is_quote (get_or xs i 0) ≡ false). rw (e, f, g, token_begun) sign_begun) (which (is_quote (get_or xs i 0))))
      (which (is_digit (get_or xs i 0))))
      (which (is_letter (get_or xs i 0)))

-- ---- the token at or after a place

pub record Placed (xs : List ℕ) (at : ℕ) (t : Token) : Type 0 where
  pub after : at ≤ t.start
  pub ordered : t.start ≤ t.end
  pub inside : t.end ≤ length xs
  pub moves : (t.kind ≡ Kind.End → ⊥) → t.start < t.end
  pub ends : t.kind ≡ Kind.End → t.start ≡ length xs
  pub name : t.kind ≡ Kind.Name → t.end ≤ t.start + max_name_bytes
  pub literal : t.kind ≡ Kind.Literal → (1 ≤ length (characters_at xs t.start)) × (length (characters_at xs t.start) ≤ max_literal_bytes)

some_placed : (xs : List ℕ) (at i : ℕ) (t : Token) → at ≤ i → Begun xs i t → Placed xs at t
some_placed xs at i t h b =
    record {
      after = omega (arith, b.here);
      ordered = omega (arith, b.here, b.moves);
      inside = b.inside;
      moves = λ z. omega (arith, b.here, b.moves);
      ends = λ z. absurd (subst (Fine xs i t.end) z b.fine);
      name = λ z. let h : t.end ≤ i + max_name_bytes = subst (Fine xs i t.end) z b.fine in omega (arith, b.here);
      literal = λ z.
          subst (λ (k : ℕ). (1 ≤ length (characters_at xs k)) × (length (characters_at xs k) ≤ max_literal_bytes)) (sym b.here) (subst (Fine xs i t.end) z b.fine);
    }

pub placed : (xs : List ℕ) (at : ℕ) → at ≤ length xs → Placed xs at (token_of xs at)
unfolding token_of
placed xs at h =
    let i : ℕ = gap_end false at (drop at xs)
    in let g : at ≤ gap_end false at (drop at xs) = gap_grows false at (drop at xs)
    in let f : gap_end false at (drop at xs) ≤ at + length (drop at xs) = gap_fits false at (drop at xs)
    in let n : length (drop at xs) ≡ length xs - at = length-drop at xs
    in ⊎_elim
    (λ e.
    let l : gap_end false at (drop at xs) < length xs = ltb-true (gap_end false at (drop at xs)) (length xs) e
    in rw (from_some xs (gap_end false at (drop at xs)) l) (some_placed xs at (gap_end false at (drop at xs)) (token_begun xs (gap_end false at (drop at xs))) g (begun xs (gap_end false at (drop at xs)) l)))
    (λ e.
    let l : length xs ≤ gap_end false at (drop at xs) = ltb-false (gap_end false at (drop at xs)) (length xs) e
    in rw (from_none xs (gap_end false at (drop at xs)) l) (record { after = g; ordered = omega arith; inside = omega arith; moves = λ z. absurd (z refl); ends = λ z. omega arith; name = λ z. omega arith; literal = λ z. let y : ◌≡◌ {A = ℕ} 0 1 = cc in absurd (omega arith) }))
    (which (ltb (gap_end false at (drop at xs)) (length xs)))
