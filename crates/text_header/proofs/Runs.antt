-- Laws of runs and words, as their loops go.
-- Assumes nothing.
use Prim.Native.Nat.{ℕ, suc, ◌+◌, ◌-◌, max, ◌≤◌, ◌<◌}
use mathlib.Core.Path.{◌≡◌, refl, sym, ap₂, ◌∙◌}
use mathlib.Core.Bool.{Bool, true, false, cond}
use mathlib.Core.Logic.{⊎_elim}
use mathlib.Core.List.{List, [], ◌∷◌}
use native.Mathlib.Omega.{arith}
use native.Mathlib.Numerals.{add-one}
use borrow.Author.Tests.{eq-eqb, eqb-true, leb-true, leb-false}
use lib.Dec.{leb, eqb}
use lib.ListN.{length, get_or, drop, drop_of_length-le, length-drop}
use lib.Seq.{drop-cons}
use Rattle.basis.proofs.Booleans.{both_first, both_second, which}
use Rattle.text_header.specs.Bytes.{in_class, lower_case}
use Rattle.text_header.specs.Spans.{span_end, starts, is_word}
use Rattle.text_header.specs.declared.Class.{Class}
use Rattle.text_header.proofs.Tests.{choice}

-- the bytes from place i on: the byte there, and those after it
pub next : (xs : List ℕ) (i : ℕ) → i < length xs → drop i xs ≡ get_or xs i 0 ∷ drop (i + 1) xs
next xs i h = rw (add-one, drop-cons xs i 0)

module _ (class : Class) (i b : ℕ) (bs : List ℕ) where
  pub span_on : in_class class b ≡ true → span_end class i (b ∷ bs) ≡ span_end class (i + 1) bs
  unfolding span_end
  span_on e = rw (e, span_end)

  pub span_off : in_class class b ≡ false → span_end class i (b ∷ bs) ≡ i
  unfolding span_end
  span_off e = rw (e, span_end)

module _ (class : Class) (xs : List ℕ) (i : ℕ) where
  pub span_turn : i < length xs → in_class class (get_or xs i 0) ≡ true → span_end class i (drop i xs) ≡ span_end class (i + 1) (drop (i + 1) xs)
  span_turn h e = rw (next xs i h) (span_on class i (get_or xs i 0) (drop (i + 1) xs) e)

  pub span_stop : i < length xs → in_class class (get_or xs i 0) ≡ false → span_end class i (drop i xs) ≡ i
  span_stop h e = rw (next xs i h) (span_off class i (get_or xs i 0) (drop (i + 1) xs) e)

  pub span_out : length xs ≤ i → span_end class i (drop i xs) ≡ i
  unfolding span_end
  span_out h = rw (drop_of_length-le xs h)

-- where a loop from place `at` on over n bytes is at the end, at i
pub loop_over : (n at i e : ℕ) → n ≤ i → (at ≤ n → i ≤ n) → i ≡ e → (n ≤ at → at ≡ e) → max at n ≡ e
loop_over n at i e h f x y =
    ⊎_elim (λ l. let k : at ≤ n = leb-true at n l in omega (arith, f k, h, x)) (λ l. let k : n < at = leb-false at n l in omega (arith, y (omega (arith, k)))) (which (leb at n))

pub span_over : (class : Class) (xs : List ℕ) (at i : ℕ) → length xs ≤ i → (at ≤ length xs → i ≤ length xs) → span_end class i (drop i xs) ≡ span_end class at (drop at xs)
    → max at (length xs) ≡ span_end class at (drop at xs)
span_over class xs at i h f e =
    loop_over (length xs) at i (span_end class at (drop at xs)) h f (sym (span_out class xs i h) ∙ e) (λ l. sym (span_out class xs at l))

module _ (folded : Bool) (w b : ℕ) (ws bs : List ℕ) where
  pub starts_on : eqb (cond folded (lower_case b) b) w ≡ true → starts folded (w ∷ ws) (b ∷ bs) ≡ starts folded ws bs
  unfolding starts
  starts_on e = rw (e, starts)

  pub starts_off : eqb (cond folded (lower_case b) b) w ≡ false → starts folded (w ∷ ws) (b ∷ bs) ≡ false
  unfolding starts
  starts_off e = rw (e, starts)

module _ (folded : Bool) (ws xs : List ℕ) (k : ℕ) where
  pub starts_turn : k < length ws → k < length xs → eqb (cond folded (lower_case (get_or xs k 0)) (get_or xs k 0)) (get_or ws k 0) ≡ true
      → starts folded (drop k ws) (drop k xs) ≡ starts folded (drop (k + 1) ws) (drop (k + 1) xs)
  starts_turn h l e = rw (next ws k h, next xs k l) (starts_on folded (get_or ws k 0) (get_or xs k 0) (drop (k + 1) ws) (drop (k + 1) xs) e)

  pub starts_stop : k < length ws → k < length xs → eqb (cond folded (lower_case (get_or xs k 0)) (get_or xs k 0)) (get_or ws k 0) ≡ false
      → starts folded (drop k ws) (drop k xs) ≡ false
  starts_stop h l e = rw (next ws k h, next xs k l) (starts_off folded (get_or ws k 0) (get_or xs k 0) (drop (k + 1) ws) (drop (k + 1) xs) e)

  pub starts_short : k < length ws → length xs ≤ k → starts folded (drop k ws) (drop k xs) ≡ false
  unfolding starts
  starts_short h l = rw (next ws k h, drop_of_length-le xs l)

  pub starts_end : length ws ≤ k → starts folded (drop k ws) (drop k xs) ≡ true
  unfolding starts
  starts_end h = rw (drop_of_length-le ws h)

-- a run ends within the bytes
pub span_grows : (class : Class) (i : ℕ) (bs : List ℕ) → i ≤ span_end class i bs
unfolding span_end
span_grows class i [] = omega arith
span_grows class i (b ∷ bs) = choice (λ e. i ≤ e) (in_class class b) (let h : i + 1 ≤ span_end class (i + 1) bs = span_grows class (i + 1) bs in omega arith) (omega arith)

pub span_fits : (class : Class) (i : ℕ) (bs : List ℕ) → span_end class i bs ≤ i + length bs
unfolding span_end
span_fits class i [] = omega arith
span_fits class i (b ∷ bs) =
    choice (λ e. e ≤ i + suc (length bs)) (in_class class b) (let h : span_end class (i + 1) bs ≤ i + 1 + length bs = span_fits class (i + 1) bs in omega arith) (omega arith)

pub span_within : (class : Class) (xs : List ℕ) (i : ℕ) → span_end class i (drop i xs) ≤ max i (length xs)
span_within class xs i = let h = span_fits class i (drop i xs) in let l : length (drop i xs) ≡ length xs - i = length-drop i xs in omega (arith, h, l)

-- a word is no longer than the bytes that begin with it
pub starts_length : (folded : Bool) (ws xs : List ℕ) → starts folded ws xs ≡ true → length ws ≤ length xs
unfolding starts
starts_length folded [] xs h = omega arith
starts_length folded (w ∷ ws) [] h = let z : ◌≡◌ {A = ℕ} 0 1 = cc in absurd (omega arith)
starts_length folded (w ∷ ws) (b ∷ bs) h =
    ⊎_elim
    (λ e. let l : length ws ≤ length bs = starts_length folded ws bs (sym (starts_on folded w b ws bs e) ∙ h) in omega arith)
    (λ e. let f : false ≡ true = sym (starts_off folded w b ws bs e) ∙ h in let z : ◌≡◌ {A = ℕ} 0 1 = cc in absurd (omega arith))
    (which (eqb (cond folded (lower_case b) b) w))

-- ---- a word that is spelled exactly is the same bytes

pub starts_equal : (ws bs : List ℕ) → length ws ≡ length bs → starts false ws bs ≡ true → ws ≡ bs
unfolding starts
starts_equal [] [] l h = refl
starts_equal [] (b ∷ bs) l h = absurd (omega arith)
starts_equal (w ∷ ws) [] l h = absurd (omega arith)
starts_equal (w ∷ ws) (b ∷ bs) l h =
    ⊎_elim (λ e. ap₂ ◌∷◌ (sym (eqb-true b w e)) (starts_equal ws bs (omega arith) (sym (starts_on false w b ws bs e) ∙ h)))
    (λ e. let f : false ≡ true = sym (starts_off false w b ws bs e) ∙ h in let z : ◌≡◌ {A = ℕ} 0 1 = cc in absurd (omega arith))
    (which (eqb b w))

starts_self : (ws : List ℕ) → starts false ws ws ≡ true
unfolding starts
starts_self [] = refl
starts_self (w ∷ ws) = starts_on false w w ws ws (eq-eqb w w refl) ∙ starts_self ws

pub word_equal : (ws bs : List ℕ) → is_word false ws bs ≡ true → ws ≡ bs
word_equal ws bs h =
    starts_equal ws bs (eqb-true (length ws) (length bs) (both_first (eqb (length ws) (length bs)) (starts false ws bs) h))
    (both_second (eqb (length ws) (length bs)) (starts false ws bs) h)

pub word_self : (ws : List ℕ) → is_word false ws ws ≡ true
word_self ws = rw (eq-eqb (length ws) (length ws) refl) (starts_self ws)
