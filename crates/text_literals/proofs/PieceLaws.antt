-- A literal that is written by its characters is read so.
-- Assumes nothing.
use Prim.Native.Nat.{ℕ, suc, ◌+◌, ◌*◌, ◌≤◌}
use mathlib.Core.Path.{◌≡◌, refl, sym, ap, ap₂, subst, ◌∙◌}
use mathlib.Core.Logic.{⊎_elim}
use mathlib.Core.Bool.{true, false, ◌||◌}
use mathlib.Core.List.{List, [], ◌∷◌, ◌++◌, map, append_assoc, append-nil}
use native.Mathlib.Omega.{arith}
use borrow.Author.Tests.{eq-eqb, eqb-true, le-leb}
use lib.Dec.{leb, eqb}
use lib.ListN.{length, length-append}
use Rattle.basis.proofs.Booleans.{both_first, both_second, which}
use Rattle.text_header.specs.Bytes.{digit_of, in_radix}
use Rattle.text_literals.specs.Literals.{is_quote, between, part_after, stops, counted, reached, literal_reach, with_character, characters}
use Rattle.text_literals.specs.Pieces.{Piece, plain, escape, hexadecimal, hex_value, all_hex, written, value, Right, spelled, All-right}
use Rattle.text_literals.specs.declared.Part.{Part}
use Rattle.text_literals.specs.declared.Part.TheVariants.{Start, Escape, Bracket, Digits, Character, Closed}
use Rattle.text_literals.proofs.Reaches.{start_between, reach_on, reach_off, characters_on, characters_off}

-- a value grows with its digits
hex_grows : (v : ℕ) (ds : List ℕ) → v ≤ hex_value v ds
unfolding hex_value
hex_grows v [] = omega arith
hex_grows v (d ∷ ds) = let h : 16 * v + digit_of d ≤ hex_value (16 * v + digit_of d) ds = hex_grows (16 * v + digit_of d) ds in omega arith

-- what may follow a backslash is no `[`
no_bracket : (b : ℕ) → (eqb b 92 || is_quote b) ≡ true → eqb b 91 ≡ false
no_bracket b e =
    ⊎_elim (λ (t : eqb b 92 ≡ true). rw (eqb-true b 92 t))
    (λ (t : eqb b 92 ≡ false).
    ⊎_elim (λ (u : eqb b 34 ≡ true). rw (eqb-true b 34 u)) (λ (u : eqb b 34 ≡ false). let n : eqb b 39 ≡ true = rw (t, u) at e in rw (eqb-true b 39 n)) (which (eqb b 34)))
    (which (eqb b 92))

module _ (quote : ℕ) (other : eqb 92 quote ≡ false) where
  -- the bytes `bs` lead from part p to part p', n characters more, with the characters `cs`
  record Leads (p : Part) (bs : List ℕ) (p' : Part) (n : ℕ) (cs : List ℕ) : Type 0 where
    reach : (k i : ℕ) (rest : List ℕ) → literal_reach quote p k i (bs ++ rest) ≡ literal_reach quote p' (k + n) (i + length bs) rest
    shows : (rest : List ℕ) → characters quote p (bs ++ rest) ≡ cs ++ characters quote p' rest

  none : (p : Part) → Leads p [] p 0 []
  none p =
      record {
        reach = λ k i rest. ap₂ (λ (x y : ℕ). literal_reach quote p x y rest) (omega arith) (omega arith);
        shows = λ rest. refl;
      }

  then : {p p' p'' : Part} {bs bs' cs cs' : List ℕ} {n n' : ℕ} → Leads p bs p' n cs → Leads p' bs' p'' n' cs' → Leads p (bs ++ bs') p'' (n + n') (cs ++ cs')
  then {p} {p'} {p''} {bs} {bs'} {cs} {cs'} {n} {n'} f g =
      record {
        reach = λ k i rest.
            let m : k + n + n' ≡ k + (n + n') = omega arith
            in let l : i + length bs + length bs' ≡ i + length (bs ++ bs') = omega (arith, length-append bs bs')
            in ap (literal_reach quote p k i) (append_assoc bs bs' rest) ∙ f.reach k i (bs' ++ rest) ∙ g.reach (k + n) (i + length bs) rest ∙ ap₂ (λ (x y : ℕ). literal_reach quote p'' x y rest) m l;
        shows = λ rest.
            ap (characters quote p) (append_assoc bs bs' rest) ∙ f.shows (bs' ++ rest) ∙ ap (λ (l : List ℕ). cs ++ l) (g.shows rest) ∙ sym (append_assoc cs cs' (characters quote p'' rest));
      }

  -- one byte, to a part with no character of its own, or with one
  byte : (p : Part) (b : ℕ) (p' : Part) (n : ℕ) (cs : List ℕ) → part_after p quote b ≡ p' → stops p' ≡ false → ((k : ℕ) → counted k p' ≡ k + n) → ((l : List ℕ) → with_character p' l ≡ cs ++ l) → Leads p (b ∷ []) p' n cs
  byte p b p' n cs e s c w =
      record {
        reach = λ k i rest. reach_on quote p b rest k i (ap stops e ∙ s) ∙ ap (λ (x : Part). literal_reach quote x (counted k x) (i + 1) rest) e ∙ ap (λ (x : ℕ). literal_reach quote p' x (i + 1) rest) (c k);
        shows = λ rest. characters_on quote p b rest (ap stops e ∙ s) ∙ ap (λ (x : Part). with_character x (characters quote x rest)) e ∙ w (characters quote p' rest);
      }

  shown : (p : Part) (b c : ℕ) → part_after p quote b ≡ Character c → Leads p (b ∷ []) (Character c) 1 (c ∷ [])
  shown p b c e = byte p b (Character c) 1 (c ∷ []) e refl (λ k. refl) (λ l. refl)

  silent : (p : Part) (b : ℕ) (p' : Part) → part_after p quote b ≡ p' → stops p' ≡ false → ((k : ℕ) → counted k p' ≡ k) → ((l : List ℕ) → with_character p' l ≡ l) → Leads p (b ∷ []) p' 0 []
  silent p b p' e s c w = byte p b p' 0 [] e s (λ k. c k ∙ omega arith) w

  -- ---- one character

  -- the digits of `\[hex]` and its bracket
  digits : (v : ℕ) (ds : List ℕ) → all_hex ds ≡ true → hex_value v ds ≤ 127 → Leads (Digits v) (ds ++ (93 ∷ [])) (Character (hex_value v ds)) 1 (hex_value v ds ∷ [])
  unfolding all_hex hex_value
  digits v [] a h = shown (Digits v) 93 v refl
  digits v (d ∷ ds) a h =
      let g : 16 * v + digit_of d ≤ hex_value (16 * v + digit_of d) ds = hex_grows (16 * v + digit_of d) ds
      in let l : leb (16 * v + digit_of d) 127 ≡ true = le-leb (16 * v + digit_of d) 127 (omega arith)
      in let e : part_after (Digits v) quote d ≡ Digits (16 * v + digit_of d) = rw (both_first (in_radix 16 d) (all_hex ds) a, l)
      in then (silent (Digits v) d (Digits (16 * v + digit_of d)) e refl (λ k. refl) (λ l. refl)) (digits (16 * v + digit_of d) ds (both_second (in_radix 16 d) (all_hex ds) a) h)

  -- a part where a character may begin
  abbrev Boundary : Part → Type 0
  Boundary p = (b : ℕ) → eqb b quote ≡ false → part_after p quote b ≡ between quote b

  backslash : (p : Part) → Boundary p → Leads p (92 ∷ []) Escape 0 []
  backslash p t = silent p 92 Escape (t 92 other ∙ rw other) refl (λ k. refl) (λ l. refl)

  piece : (p : Part) → Boundary p → (x : Piece) → Right quote x → Leads p (written x) (Character (value x)) 1 (value x ∷ [])
  unfolding hex_value
  piece p t (plain b) r = shown p b b (t b r.1 ∙ rw (r.1, r.2, r.0))
  piece p t (escape b) r = then (backslash p t) (shown Escape b b (rw (no_bracket b r, r)))
  piece p t (hexadecimal d ds) r =
      let g : 16 * 0 + digit_of d ≤ hex_value (16 * 0 + digit_of d) ds = hex_grows (16 * 0 + digit_of d) ds
      in let l : leb (16 * 0 + digit_of d) 127 ≡ true = le-leb (16 * 0 + digit_of d) 127 (omega (arith, r.2))
      in let e : part_after Bracket quote d ≡ Digits (16 * 0 + digit_of d) = rw (r.0, l)
      in then (backslash p t)
      (then (silent Escape 91 Bracket refl refl (λ k. refl) (λ l. refl))
      (then (silent Bracket d (Digits (16 * 0 + digit_of d)) e refl (λ k. refl) (λ l. refl)) (digits (16 * 0 + digit_of d) ds r.1 r.2)))

  -- ---- several

  last_value : Piece → List Piece → ℕ
  last_value x [] = value x
  last_value x (y ∷ ys) = last_value y ys

  pieces : (p : Part) → Boundary p → (x : Piece) (xs : List Piece) → Right quote x → All-right quote xs
      → Leads p (spelled (x ∷ xs)) (Character (last_value x xs)) (length (x ∷ xs)) (map value (x ∷ xs))
  unfolding spelled last_value
  pieces p t x [] r a = then (piece p t x r) (none (Character (value x)))
  pieces p t x (y ∷ ys) r a =
      let n : 1 + length (y ∷ ys) ≡ suc (length (y ∷ ys)) = omega arith
      in subst (λ (k : ℕ). Leads p (spelled (x ∷ y ∷ ys)) (Character (last_value y ys)) k (map value (x ∷ y ∷ ys))) n
      (then (piece p t x r) (pieces (Character (value x)) (λ b e. refl) y ys a.0 a.1))

  closing : (c : ℕ) → part_after (Character c) quote quote ≡ Closed
  closing c = rw (eq-eqb quote quote refl)

  start_boundary : Boundary Start
  start_boundary b e = sym (start_between quote b e)

  -- a literal ends with its closing quote, and has its characters
  pub literal_read : (x : Piece) (xs : List Piece) → All-right quote (x ∷ xs) → (i : ℕ) (rest : List ℕ)
      → literal_reach quote Start 0 i (spelled (x ∷ xs) ++ (quote ∷ rest)) ≡ reached Closed (length (x ∷ xs)) (i + length (spelled (x ∷ xs)) + 1)
  literal_read x xs a i rest =
      let c : ℕ = last_value x xs
      in let n : 0 + length (x ∷ xs) ≡ length (x ∷ xs) = omega arith
      in (pieces Start start_boundary x xs a.0 a.1).reach 0 i (quote ∷ rest)
      ∙ reach_off quote (Character (last_value x xs)) quote rest (0 + length (x ∷ xs)) (i + length (spelled (x ∷ xs))) (ap stops (closing (last_value x xs)))
      ∙ ap₂ (λ (p : Part) (k : ℕ). reached p k (i + length (spelled (x ∷ xs)) + 1)) (closing (last_value x xs)) n

  pub literal_shown : (x : Piece) (xs : List Piece) → All-right quote (x ∷ xs) → (rest : List ℕ) → characters quote Start (spelled (x ∷ xs) ++ (quote ∷ rest)) ≡ map value (x ∷ xs)
  literal_shown x xs a rest =
      (pieces Start start_boundary x xs a.0 a.1).shows (quote ∷ rest)
      ∙ ap (λ (l : List ℕ). map value (x ∷ xs) ++ l) (characters_off quote (Character (last_value x xs)) quote rest (ap stops (closing (last_value x xs))))
      ∙ append-nil (map value (x ∷ xs))
