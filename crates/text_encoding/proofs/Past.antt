-- Past the end of the text there are no characters and no digits.
-- Assumes nothing.
use Prim.Native.Nat.{ℕ, ◌+◌, ◌≤◌}
use mathlib.Core.Path.{◌≡◌, ap, ◌∙◌}
use mathlib.Core.Bool.{cond}
use mathlib.Core.List.{List, []}
use native.Mathlib.Omega.{arith}
use lib.Dec.{eqb}
use lib.ListN.{length, get_or, drop, drop_of_length-le, get_or-eq_default}
use Rattle.text_literals.specs.Literals.{characters, characters_at}
use Rattle.text_literals.specs.declared.Part.TheVariants.{Start}
use Rattle.text_tokens.specs.Numbers.{radix_of, radix_at, digits_at, digits_value, number_value}

module _ (xs : List ℕ) (p : ℕ) (h : length xs ≤ p) where
  pub characters_past : characters_at xs p ≡ []
  unfolding characters
  characters_past = ap (characters (get_or xs p 0) Start) (drop_of_length-le xs (let z : length xs ≤ p + 1 = omega arith in z))

  radix_past : radix_at xs p ≡ 10
  unfolding radix_at
  radix_past = ap (λ (b : ℕ). radix_of b (get_or xs (p + 1) 0) (get_or xs (p + 2) 0)) (get_or-eq_default xs 0 h)

  digits_past : digits_at xs p ≡ p
  unfolding digits_at
  digits_past = ap (λ (r : ℕ). cond (eqb r 10) p (p + 2)) radix_past

  pub number_past : number_value xs p ≡ 0
  unfolding digits_value
  number_past = ap (digits_value (radix_at xs p) 0) (ap (λ (k : ℕ). drop k xs) digits_past ∙ drop_of_length-le xs h)
