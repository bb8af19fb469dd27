-- A literal that is read to its closing quote is written by its characters.
-- Assumes nothing.
use Prim.Native.Nat.{ℕ, ◌+◌, ◌*◌, ◌≤◌}
use mathlib.Core.Path.{◌≡◌, refl, sym, ap, subst, ◌∙◌}
use mathlib.Core.Logic.{⊎_elim}
use mathlib.Core.Bool.{true, false, ◌||◌}
use mathlib.Core.List.{List, [], ◌∷◌, ◌++◌, append_assoc}
use native.Mathlib.Omega.{arith}
use borrow.Author.Tests.{eqb-true, leb-true}
use lib.Dec.{leb, eqb}
use Rattle.basis.proofs.Booleans.{both_first, both_second, which}
use Rattle.text_header.specs.Bytes.{is_printable, digit_of, in_radix}
use Rattle.text_literals.specs.Literals.{is_quote, between, part_after, stops, counted, reached, literal_reach, is_closed}
use Rattle.text_literals.specs.Pieces.{Piece, plain, escape, hexadecimal, hex_value, all_hex, written, Right, spelled, All-right}
use Rattle.text_literals.specs.declared.Part.{Part}
use Rattle.text_literals.specs.declared.Part.TheVariants.{Start, Escape, Bracket, Digits, Character, Wrong}
use Rattle.text_literals.specs.declared.Extent.{Extent}
use Rattle.text_literals.proofs.Reaches.{start_between, reach_on, reach_off}

never : {A : Type 0} → false ≡ true → A
never e = let z : ◌≡◌ {A = ℕ} 0 1 = cc in absurd (omega arith)

-- one digit more at the end
hex_snoc : (v : ℕ) (ds : List ℕ) (d : ℕ) → hex_value v (ds ++ (d ∷ [])) ≡ 16 * hex_value v ds + digit_of d
unfolding hex_value
hex_snoc v [] d = refl
hex_snoc v (e ∷ ds) d = hex_snoc (16 * v + digit_of e) ds d

all_snoc : (ds : List ℕ) (d : ℕ) → all_hex ds ≡ true → in_radix 16 d ≡ true → all_hex (ds ++ (d ∷ [])) ≡ true
unfolding all_hex
all_snoc [] d a e = rw e
all_snoc (x ∷ ds) d a e = rw (both_first (in_radix 16 x) (all_hex ds) a) (all_snoc ds d (both_second (in_radix 16 x) (all_hex ds) a) e)

module _ (quote : ℕ) where
  -- the bytes are right characters and a closing quote
  pub record Written (bs : List ℕ) : Type 0 where
    pub pieces : List Piece
    pub rest : List ℕ
    pub same : bs ≡ spelled pieces ++ (quote ∷ rest)
    pub right : All-right quote pieces

  more : (x : Piece) → Right quote x → (bs : List ℕ) → Written bs → Written (written x ++ bs)
  unfolding spelled
  more x r bs w =
      record {
        pieces = x ∷ w.pieces;
        rest = w.rest;
        same = ap (λ (l : List ℕ). written x ++ l) w.same ∙ sym (append_assoc (written x) (spelled w.pieces) (quote ∷ w.rest));
        right = (r, w.right);
      }

  -- what was read of a character where a part is reached
  data Pending : Part → List ℕ → Type 0 where
    at_start : Pending Start []
    at_character : {c : ℕ} → Pending (Character c) []
    at_escape : Pending Escape (92 ∷ [])
    at_bracket : Pending Bracket (92 ∷ 91 ∷ [])
    at_digits : {v d : ℕ} {ds : List ℕ} → in_radix 16 d ≡ true → all_hex ds ≡ true → hex_value 0 (d ∷ ds) ≡ v → v ≤ 127 → Pending (Digits v) (92 ∷ 91 ∷ d ∷ ds)

  abbrev Closes : Part → ℕ → ℕ → List ℕ → Type 0
  Closes p n i bs = is_closed (literal_reach quote p n i bs).part ≡ true

  module _ (p : Part) (b : ℕ) (bs : List ℕ) (n i : ℕ) (h : Closes p n i (b ∷ bs)) where
    go_on : (p' : Part) → part_after p quote b ≡ p' → stops p' ≡ false → Closes p' (counted n p') (i + 1) bs
    go_on p' e s =
        subst (λ (r : Extent). is_closed r.part ≡ true) (reach_on quote p b bs n i (ap stops e ∙ s) ∙ ap (λ (x : Part). literal_reach quote x (counted n x) (i + 1) bs) e) h

    dead : {A : Type 0} → part_after p quote b ≡ Wrong → A
    dead e = never (subst (λ (r : Extent). is_closed r.part ≡ true) (reach_off quote p b bs n i (ap stops e) ∙ ap (λ (x : Part). reached x n (i + 1)) e) h)

  -- what is known of the bytes after the next
  abbrev Later : List ℕ → Type 0
  Later bs = (p : Part) (pre : List ℕ) → Pending p pre → (n i : ℕ) → Closes p n i bs → Written (pre ++ bs)

  -- where a character may begin
  begins : (p : Part) (b : ℕ) (bs : List ℕ) (n i : ℕ) → Closes p n i (b ∷ bs) → Later bs → eqb b quote ≡ false → part_after p quote b ≡ between quote b → Written (b ∷ bs)
  begins p b bs n i h later f t =
      ⊎_elim
      (λ (e : eqb b 92 ≡ true).
      subst (λ (x : ℕ). Written (x ∷ bs)) (sym (eqb-true b 92 e)) (later Escape (92 ∷ []) at_escape n (i + 1) (go_on p b bs n i h Escape (t ∙ rw (f, e)) refl)))
      (λ (e : eqb b 92 ≡ false).
      ⊎_elim
      (λ (g : is_printable b ≡ true). more (plain b) (g, f, e) bs (later (Character b) [] at_character (n + 1) (i + 1) (go_on p b bs n i h (Character b) (t ∙ rw (f, e, g)) refl)))
      (λ (g : is_printable b ≡ false). dead p b bs n i h (t ∙ rw (f, e, g)))
      (which (is_printable b)))
      (which (eqb b 92))

  start_step : (b : ℕ) (bs : List ℕ) (n i : ℕ) → Closes Start n i (b ∷ bs) → Later bs → Written (b ∷ bs)
  start_step b bs n i h later =
      ⊎_elim (λ (e : eqb b quote ≡ true). dead Start b bs n i h (rw e)) (λ (e : eqb b quote ≡ false). begins Start b bs n i h later e (sym (start_between quote b e))) (which (eqb b quote))

  character_step : (c b : ℕ) (bs : List ℕ) (n i : ℕ) → Closes (Character c) n i (b ∷ bs) → Later bs → Written (b ∷ bs)
  unfolding spelled
  character_step c b bs n i h later =
      ⊎_elim (λ (e : eqb b quote ≡ true). record { pieces = []; rest = bs; same = ap (λ (x : ℕ). x ∷ bs) (eqb-true b quote e); right = tt })
      (λ (e : eqb b quote ≡ false). begins (Character c) b bs n i h later e refl)
      (which (eqb b quote))

  escape_step : (b : ℕ) (bs : List ℕ) (n i : ℕ) → Closes Escape n i (b ∷ bs) → Later bs → Written (92 ∷ b ∷ bs)
  escape_step b bs n i h later =
      ⊎_elim
      (λ (e : eqb b 91 ≡ true).
      subst (λ (x : ℕ). Written (92 ∷ x ∷ bs)) (sym (eqb-true b 91 e)) (later Bracket (92 ∷ 91 ∷ []) at_bracket n (i + 1) (go_on Escape b bs n i h Bracket (rw e) refl)))
      (λ (e : eqb b 91 ≡ false).
      ⊎_elim
      (λ (g : (eqb b 92 || is_quote b) ≡ true). more (escape b) g bs (later (Character b) [] at_character (n + 1) (i + 1) (go_on Escape b bs n i h (Character b) (rw (e, g)) refl)))
      (λ (g : (eqb b 92 || is_quote b) ≡ false). dead Escape b bs n i h (rw (e, g)))
      (which (eqb b 92 || is_quote b)))
      (which (eqb b 91))

  bracket_step : (b : ℕ) (bs : List ℕ) (n i : ℕ) → Closes Bracket n i (b ∷ bs) → Later bs → Written (92 ∷ 91 ∷ b ∷ bs)
  unfolding hex_value all_hex
  bracket_step b bs n i h later =
      ⊎_elim
      (λ (e : in_radix 16 b ≡ true).
      ⊎_elim
      (λ (g : leb (16 * 0 + digit_of b) 127 ≡ true).
      later (Digits (16 * 0 + digit_of b)) (92 ∷ 91 ∷ b ∷ []) (at_digits e refl refl (leb-true (16 * 0 + digit_of b) 127 g)) n (i + 1) (go_on Bracket b bs n i h (Digits (16 * 0 + digit_of b)) (rw (e, g)) refl))
      (λ (g : leb (16 * 0 + digit_of b) 127 ≡ false). dead Bracket b bs n i h (rw (e, g)))
      (which (leb (16 * 0 + digit_of b) 127)))
      (λ (e : in_radix 16 b ≡ false). dead Bracket b bs n i h (rw e))
      (which (in_radix 16 b))

  module _ (v d : ℕ) (ds : List ℕ) (r : in_radix 16 d ≡ true) (a : all_hex ds ≡ true) (s : hex_value 0 (d ∷ ds) ≡ v) (l : v ≤ 127) where
    digits_step : (b : ℕ) (bs : List ℕ) (n i : ℕ) → Closes (Digits v) n i (b ∷ bs) → Later bs → Written (92 ∷ 91 ∷ d ∷ (ds ++ (b ∷ bs)))
    unfolding hex_value
    digits_step b bs n i h later =
        ⊎_elim
        (λ (e : in_radix 16 b ≡ true).
        ⊎_elim
        (λ (g : leb (16 * v + digit_of b) 127 ≡ true).
        let t : hex_value 0 (d ∷ (ds ++ (b ∷ []))) ≡ 16 * v + digit_of b = hex_snoc (16 * 0 + digit_of d) ds b ∙ ap (λ (x : ℕ). 16 * x + digit_of b) s
        in subst (λ (l : List ℕ). Written (92 ∷ 91 ∷ d ∷ l)) (append_assoc ds (b ∷ []) bs)
        (later (Digits (16 * v + digit_of b)) (92 ∷ 91 ∷ d ∷ (ds ++ (b ∷ []))) (at_digits r (all_snoc ds b a e) t (leb-true (16 * v + digit_of b) 127 g)) n (i + 1) (go_on (Digits v) b bs n i h (Digits (16 * v + digit_of b)) (rw (e, g)) refl)))
        (λ (g : leb (16 * v + digit_of b) 127 ≡ false). dead (Digits v) b bs n i h (rw (e, g)))
        (which (leb (16 * v + digit_of b) 127)))
        (λ (e : in_radix 16 b ≡ false).
        ⊎_elim
        (λ (g : eqb b 93 ≡ true).
        let w : Written (written (hexadecimal d ds) ++ bs) = more (hexadecimal d ds) (r, a, subst (λ (x : ℕ). x ≤ 127) (sym s) l) bs (later (Character v) [] at_character (n + 1) (i + 1) (go_on (Digits v) b bs n i h (Character v) (rw (e, g)) refl))
        in subst (λ (x : ℕ). Written (92 ∷ 91 ∷ d ∷ (ds ++ (x ∷ bs)))) (sym (eqb-true b 93 g)) (subst (λ (l : List ℕ). Written (92 ∷ 91 ∷ d ∷ l)) (append_assoc ds (93 ∷ []) bs) w))
        (λ (g : eqb b 93 ≡ false). dead (Digits v) b bs n i h (rw (e, g)))
        (which (eqb b 93)))
        (which (in_radix 16 b))

  step : {p : Part} {pre : List ℕ} → Pending p pre → (b : ℕ) (bs : List ℕ) (n i : ℕ) → Closes p n i (b ∷ bs) → Later bs → Written (pre ++ (b ∷ bs))
  step at_start b bs n i h later = start_step b bs n i h later
  step (at_character {c = c}) b bs n i h later = character_step c b bs n i h later
  step at_escape b bs n i h later = escape_step b bs n i h later
  step at_bracket b bs n i h later = bracket_step b bs n i h later
  step (at_digits {v = v} {d = d} {ds = ds} r a s l) b bs n i h later = digits_step v d ds r a s l b bs n i h later

  open_part : {p : Part} {pre : List ℕ} → Pending p pre → is_closed p ≡ true → Written (pre ++ [])
  open_part at_start e = never e
  open_part at_character e = never e
  open_part at_escape e = never e
  open_part at_bracket e = never e
  open_part (at_digits r a s l) e = never e

  found : (bs : List ℕ) → Later bs
  unfolding literal_reach
  found [] p pre pending n i h = open_part pending h
  found (b ∷ bs) p pre pending n i h = step pending b bs n i h (λ p pre pending n i h. found bs p pre pending n i h)

  -- a literal that closes is characters and a closing quote
  pub literal_written : (bs : List ℕ) (n i : ℕ) → is_closed (literal_reach quote Start n i bs).part ≡ true → Written bs
  literal_written bs n i h = found bs Start [] at_start n i h
