-- Laws of literals, as their loops go.
-- Assumes nothing.
use Prim.Native.Nat.{ℕ, ◌+◌, ◌≤◌, ◌<◌}
use mathlib.Core.Path.{◌≡◌, refl, ap, ◌∙◌}
use mathlib.Core.Logic.{⊎_elim}
use mathlib.Core.Bool.{true, false}
use mathlib.Core.List.{List, [], ◌∷◌}
use native.Mathlib.Omega.{arith}
use lib.Dec.{eqb}
use lib.ListN.{length, get_or, drop, drop_of_length-le}
use Rattle.basis.proofs.Booleans.{which}
use Rattle.text_header.proofs.Runs.{next}
use Rattle.text_literals.specs.Literals.{between, part_after, stops, counted, reached, literal_reach, with_character, characters}
use Rattle.text_literals.specs.declared.Part.{Part}
use Rattle.text_literals.specs.declared.Part.TheVariants.{Start, Escape, Bracket, Digits, Character, Closed, Wrong}

-- a first byte that is no quote is a character's
pub start_between : (quote b : ℕ) → eqb b quote ≡ false → between quote b ≡ part_after Start quote b
start_between quote b e = rw e

module _ (quote : ℕ) (p : Part) (b : ℕ) (bs : List ℕ) where
  pub reach_on : (n i : ℕ) → stops (part_after p quote b) ≡ false
      → literal_reach quote p n i (b ∷ bs) ≡ literal_reach quote (part_after p quote b) (counted n (part_after p quote b)) (i + 1) bs
  unfolding literal_reach
  reach_on n i e = rw (e, literal_reach)

  pub reach_off : (n i : ℕ) → stops (part_after p quote b) ≡ true → literal_reach quote p n i (b ∷ bs) ≡ reached (part_after p quote b) n (i + 1)
  unfolding literal_reach
  reach_off n i e = rw (e, literal_reach)

  pub characters_on : stops (part_after p quote b) ≡ false → characters quote p (b ∷ bs) ≡ with_character (part_after p quote b) (characters quote (part_after p quote b) bs)
  unfolding characters
  characters_on e = rw (e, characters)

  pub characters_off : stops (part_after p quote b) ≡ true → characters quote p (b ∷ bs) ≡ []
  unfolding characters
  characters_off e = rw (e, characters)

module _ (xs : List ℕ) (quote : ℕ) (p : Part) (n i : ℕ) where
  pub reach_turn : i < length xs → stops (part_after p quote (get_or xs i 0)) ≡ false
      → literal_reach quote p n i (drop i xs) ≡ literal_reach quote (part_after p quote (get_or xs i 0)) (counted n (part_after p quote (get_or xs i 0))) (i + 1) (drop (i + 1) xs)
  reach_turn h e = rw (next xs i h) (reach_on quote p (get_or xs i 0) (drop (i + 1) xs) n i e)

  pub reach_stop : i < length xs → stops (part_after p quote (get_or xs i 0)) ≡ true
      → literal_reach quote p n i (drop i xs) ≡ reached (part_after p quote (get_or xs i 0)) n (i + 1)
  reach_stop h e = rw (next xs i h) (reach_off quote p (get_or xs i 0) (drop (i + 1) xs) n i e)

  pub reach_out : length xs ≤ i → literal_reach quote p n i (drop i xs) ≡ reached p n i
  unfolding literal_reach
  reach_out h = rw (drop_of_length-le xs h)

-- ---- a literal ends within the bytes

pub reach_grows : (quote : ℕ) (p : Part) (n i : ℕ) (bs : List ℕ) → i ≤ (literal_reach quote p n i bs).end
unfolding literal_reach
reach_grows quote p n i [] = omega arith
reach_grows quote p n i (b ∷ bs) =
    ⊎_elim (λ e. rw (reach_off quote p b bs n i e) (omega arith))
    (λ e.
    rw (reach_on quote p b bs n i e)
    (let h : i + 1 ≤ (literal_reach quote (part_after p quote b) (counted n (part_after p quote b)) (i + 1) bs).end = reach_grows quote (part_after p quote b) (counted n (part_after p quote b)) (i + 1) bs
    in omega arith))
    (which (stops (part_after p quote b)))

pub reach_fits : (quote : ℕ) (p : Part) (n i : ℕ) (bs : List ℕ) → (literal_reach quote p n i bs).end ≤ i + length bs
unfolding literal_reach
reach_fits quote p n i [] = omega arith
reach_fits quote p n i (b ∷ bs) =
    ⊎_elim (λ e. rw (reach_off quote p b bs n i e) (omega arith))
    (λ e.
    rw (reach_on quote p b bs n i e)
    (let h : (literal_reach quote (part_after p quote b) (counted n (part_after p quote b)) (i + 1) bs).end ≤ i + 1 + length bs = reach_fits quote (part_after p quote b) (counted n (part_after p quote b)) (i + 1) bs
    in omega arith))
    (which (stops (part_after p quote b)))

-- ---- the number of characters

one_more : (n : ℕ) (p : Part) (cs : List ℕ) → counted n p + length cs ≡ n + length (with_character p cs)
one_more n Start cs = refl
one_more n Escape cs = refl
one_more n Bracket cs = refl
one_more n (Digits v) cs = refl
one_more n (Character c) cs = omega arith
one_more n Closed cs = refl
one_more n Wrong cs = refl

pub reach_count : (quote : ℕ) (p : Part) (n i : ℕ) (bs : List ℕ) → (literal_reach quote p n i bs).count ≡ n + length (characters quote p bs)
unfolding literal_reach characters
reach_count quote p n i [] = omega arith
reach_count quote p n i (b ∷ bs) =
    ⊎_elim (λ e. rw (reach_off quote p b bs n i e, characters_off quote p b bs e) (omega arith))
    (λ e.
    rw (reach_on quote p b bs n i e, characters_on quote p b bs e)
    (reach_count quote (part_after p quote b) (counted n (part_after p quote b)) (i + 1) bs ∙ one_more n (part_after p quote b) (characters quote (part_after p quote b) bs)))
    (which (stops (part_after p quote b)))

-- ---- the characters, one byte after the other

module _ (xs : List ℕ) (quote : ℕ) (p : Part) (i : ℕ) where
  pub characters_turn : i < length xs → stops (part_after p quote (get_or xs i 0)) ≡ false
      → characters quote p (drop i xs) ≡ with_character (part_after p quote (get_or xs i 0)) (characters quote (part_after p quote (get_or xs i 0)) (drop (i + 1) xs))
  characters_turn h e = ap (characters quote p) (next xs i h) ∙ characters_on quote p (get_or xs i 0) (drop (i + 1) xs) e

  pub characters_stop : i < length xs → stops (part_after p quote (get_or xs i 0)) ≡ true → characters quote p (drop i xs) ≡ []
  characters_stop h e = ap (characters quote p) (next xs i h) ∙ characters_off quote p (get_or xs i 0) (drop (i + 1) xs) e

  pub characters_out : length xs ≤ i → characters quote p (drop i xs) ≡ []
  unfolding characters
  characters_out h = ap (characters quote p) (drop_of_length-le xs h)
