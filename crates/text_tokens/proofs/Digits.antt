-- Laws of numbers.
-- Assumes nothing.
use Prim.Native.Nat.{ℕ, ◌+◌, ◌*◌, ◌-◌, ◌/◌, ◌≤◌, ◌<◌}
use mathlib.Core.Path.{◌≡◌, sym, ap, ◌∙◌}
use mathlib.Core.Logic.{⊎_elim}
use mathlib.Core.Bool.{true, false}
use mathlib.Core.List.{List, [], ◌∷◌}
use native.Mathlib.Omega.{arith}
use native.Mathlib.Nat.{div-lt_iff_lt-mul, le-div_iff_mul-le, mul-le-mul_right}
use borrow.Author.Tests.{leb-true, leb-false}
use lib.Dec.{leb}
use lib.ListN.{length, get_or, drop, drop_of_length-le}
use Rattle.basis.proofs.Booleans.{which}
use Rattle.text_header.specs.Bytes.{digit_of, in_radix}
use Rattle.text_header.proofs.Runs.{next}
use Rattle.text_tokens.specs.Numbers.{digits_value, capped}

-- one digit more leaves a number within the cap exactly where the number is within the quotient
pub passes : (v r d : ℕ) → 2 ≤ r → d ≤ 16 → (4611686018427387905 - d) / r < v → 4611686018427387905 < v * r + d
passes v r d h l e = let z : 4611686018427387905 - d < v * r = (div-lt_iff_lt-mul {k = r} {x = 4611686018427387905 - d} {y = v} (omega arith)).0 e in omega arith

pub stays : (v r d : ℕ) → 2 ≤ r → v ≤ (4611686018427387905 - d) / r → v * r ≤ 4611686018427387905 - d
stays v r d h e = (le-div_iff_mul-le {k = r} {x = v} {y = 4611686018427387905 - d} (omega arith)).0 e

-- the cap does not matter to the cap
pub cap_once : (v r d : ℕ) → 2 ≤ r → capped (capped v * r + d) ≡ capped (v * r + d)
cap_once v r d h =
    ⊎_elim (λ (t : leb v 4611686018427387905 ≡ true). let l : v ≤ 4611686018427387905 = leb-true v 4611686018427387905 t in let e : capped v ≡ v = omega arith in rw e)
    (λ (t : leb v 4611686018427387905 ≡ false).
    let l : 4611686018427387905 ≤ v = omega (arith, leb-false v 4611686018427387905 t)
    in let e : capped v ≡ 4611686018427387905 = omega arith
    in let m : 4611686018427387905 * r ≤ v * r = mul-le-mul_right r l
    in rw e (omega arith))
    (which (leb v 4611686018427387905))

module _ (radix v b : ℕ) (bs : List ℕ) where
  value_on : in_radix radix b ≡ true → digits_value radix v (b ∷ bs) ≡ digits_value radix (v * radix + digit_of b) bs
  unfolding digits_value
  value_on e = rw (e, digits_value)

  value_off : in_radix radix b ≡ false → digits_value radix v (b ∷ bs) ≡ v
  unfolding digits_value
  value_off e = rw (e, digits_value)

-- digits after a capped number
cap_before : (radix v w : ℕ) (bs : List ℕ) → 2 ≤ radix → capped v ≡ capped w → capped (digits_value radix v bs) ≡ capped (digits_value radix w bs)
unfolding digits_value
cap_before radix v w [] h e = e
cap_before radix v w (b ∷ bs) h e =
    ⊎_elim
    (λ t.
    rw (value_on radix v b bs t, value_on radix w b bs t)
    (cap_before radix (v * radix + digit_of b) (w * radix + digit_of b) bs h
    (sym (cap_once v radix (digit_of b) h) ∙ ap (λ (x : ℕ). capped (x * radix + digit_of b)) e ∙ cap_once w radix (digit_of b) h)))
    (λ t. rw (value_off radix v b bs t, value_off radix w b bs t) e)
    (which (in_radix radix b))

module _ (xs : List ℕ) (radix v i : ℕ) where
  pub value_turn : 2 ≤ radix → i < length xs → in_radix radix (get_or xs i 0) ≡ true
      → capped (digits_value radix v (drop i xs)) ≡ capped (digits_value radix (capped (v * radix + digit_of (get_or xs i 0))) (drop (i + 1) xs))
  value_turn r h e =
      rw (next xs i h, value_on radix v (get_or xs i 0) (drop (i + 1) xs) e)
      (cap_before radix (v * radix + digit_of (get_or xs i 0)) (capped (v * radix + digit_of (get_or xs i 0))) (drop (i + 1) xs) r (omega arith))

  pub value_stop : i < length xs → in_radix radix (get_or xs i 0) ≡ false → digits_value radix v (drop i xs) ≡ v
  value_stop h e = rw (next xs i h) (value_off radix v (get_or xs i 0) (drop (i + 1) xs) e)

  pub value_out : length xs ≤ i → digits_value radix v (drop i xs) ≡ v
  unfolding digits_value
  value_out h = rw (drop_of_length-le xs h)
