-- A value is never more than its size: where no calculation is too large, none passes 2^62, whatever the values of the variables within their widths.
-- Assumes nothing.
use Prim.Native.Nat.{ℕ, zero, suc, ◌+◌, ◌*◌, ◌-◌, ◌^◌, ◌≤◌}
use mathlib.Core.Path.{◌≡◌, refl, sym, subst}
use mathlib.Core.Bool.{Bool, true, false, cond}
use mathlib.Core.List.{List, [], ◌∷◌, ◌++◌}
use native.Mathlib.Omega.{arith}
use native.Mathlib.Nat.{mul-le-mul}
use borrow.Author.Tests.{ltb-false}
use lib.Dec.{ltb}
use lib.IntN.{ℤ, pos, negsuc, nat_abs, neg_ℤ, ◌+ℤ◌, ◌-ℤ◌, ◌*ℤ◌}
use Rattle.tree.specs.Tree.{Primary, number, variable, Operand, plain, opposite, Factors, no_factor, times, Product, product, Summands, no_summand, plus, minus, Calculation, sum}
use Rattle.tree_meaning.specs.Values.{Environment, primary_value, operand_value, times_value, product_value, sum_value, calculation_value}
use Rattle.tree_meaning.specs.Pieces.{Term, a_number, a_use, a_sign, primary_terms, operand_terms, factor_terms, product_terms, summand_terms, terms_of_calculation}
use Rattle.tree_meaning.specs.Sizes.{primary_size, operand_size, times_size, product_size, sum_size, calculation_size, times_largest, sum_largest, calculation_largest, too_large}

-- ---- whole numbers without their sign

abs_opposite : (z : ℤ) → nat_abs (neg_ℤ z) ≡ nat_abs z
abs_opposite (pos zero) = refl
abs_opposite (pos (suc n)) = refl
abs_opposite (negsuc n) = refl

abs_product : (a b : ℤ) → nat_abs (a *ℤ b) ≡ nat_abs a * nat_abs b
abs_product (pos m) (pos n) = refl
abs_product (pos m) (negsuc n) = abs_opposite (pos (m * suc n))
abs_product (negsuc m) (pos n) = abs_opposite (pos (suc m * n))
abs_product (negsuc m) (negsuc n) = refl

abs_cond : (c : Bool) (x y k : ℕ) → suc x ≤ k → y ≤ k → nat_abs (cond c (negsuc x) (pos y)) ≤ k
abs_cond true x y k p q = p
abs_cond false x y k p q = q

abs_sum : (a b : ℤ) → nat_abs (a +ℤ b) ≤ nat_abs a + nat_abs b
abs_sum (pos m) (pos n) = omega arith
abs_sum (pos m) (negsuc n) = abs_cond (ltb m (suc n)) (suc n - suc m) (m - suc n) (m + suc n) (omega arith) (omega arith)
abs_sum (negsuc m) (pos n) = abs_cond (ltb n (suc m)) (suc m - suc n) (n - suc m) (suc m + n) (omega arith) (omega arith)
abs_sum (negsuc m) (negsuc n) = omega arith

module _ (env : Environment) (widest : List ℕ → ℕ) where
  -- the variables that are used among these terms are within their widths
  unfoldable pub Within : List Term → Type 0
  Within [] = Unit {0}
  Within (a_number n ∷ more) = Within more
  Within (a_use x ∷ more) = (nat_abs (env x.letters) ≤ widest x.letters) × Within more
  Within (a_sign s ∷ more) = Within more

  pub within_first : (xs ys : List Term) → Within (xs ++ ys) → Within xs
  unfolding Within
  within_first [] ys h = tt
  within_first (a_number n ∷ more) ys h = within_first more ys h
  within_first (a_use x ∷ more) ys h = (h.0, within_first more ys h.1)
  within_first (a_sign s ∷ more) ys h = within_first more ys h

  pub within_second : (xs ys : List Term) → Within (xs ++ ys) → Within ys
  unfolding Within
  within_second [] ys h = h
  within_second (a_number n ∷ more) ys h = within_second more ys h
  within_second (a_use x ∷ more) ys h = within_second more ys h.1
  within_second (a_sign s ∷ more) ys h = within_second more ys h

  -- ---- values and sizes

  primary_in : (x : Primary) → Within (primary_terms x) → nat_abs (primary_value env x) ≤ primary_size widest x
  unfolding Within
  primary_in (number n) h = omega arith
  primary_in (variable x) h = h.0

  operand_in : (x : Operand) → Within (operand_terms x) → nat_abs (operand_value env x) ≤ operand_size widest x
  unfolding Within
  operand_in (plain x) h = primary_in x h
  operand_in (opposite s x) h = omega (arith, primary_in x h, abs_opposite (primary_value env x))

  times_in : (a : ℤ) (n : ℕ) (more : Factors) → nat_abs a ≤ n → Within (factor_terms more) → nat_abs (times_value env a more) ≤ times_size widest n more
  unfolding Within times_value times_size factor_terms
  times_in a n no_factor p h = p
  times_in a n (times s x more) p h =
      let q = operand_in x (within_first (operand_terms x) (factor_terms more) h) in
      times_in (a *ℤ operand_value env x) (n * operand_size widest x) more (subst (λ (k : ℕ). k ≤ n * operand_size widest x) (sym (abs_product a (operand_value env x))) (mul-le-mul p q)) (within_second (operand_terms x) (factor_terms more) h)

  product_in : (x : Product) → Within (product_terms x) → nat_abs (product_value env x) ≤ product_size widest x
  product_in (product x more) h =
      times_in (operand_value env x) (operand_size widest x) more (operand_in x (within_first (operand_terms x) (factor_terms more) h)) (within_second (operand_terms x) (factor_terms more) h)

  sum_in : (a : ℤ) (n : ℕ) (more : Summands) → nat_abs a ≤ n → Within (summand_terms more) → nat_abs (sum_value env a more) ≤ sum_size widest n more
  unfolding Within sum_value sum_size summand_terms
  sum_in a n no_summand p h = p
  sum_in a n (plus s x more) p h =
      let q = product_in x (within_first (product_terms x) (summand_terms more) h) in
      sum_in (a +ℤ product_value env x) (n + product_size widest x) more (omega (arith, abs_sum a (product_value env x), p, q)) (within_second (product_terms x) (summand_terms more) h)
  sum_in a n (minus s x more) p h =
      let q = product_in x (within_first (product_terms x) (summand_terms more) h) in
      sum_in (a -ℤ product_value env x) (n + product_size widest x) more (omega (arith, abs_sum a (neg_ℤ (product_value env x)), abs_opposite (product_value env x), p, q)) (within_second (product_terms x) (summand_terms more) h)

  pub calculation_in : (c : Calculation) → Within (terms_of_calculation c) → nat_abs (calculation_value env c) ≤ calculation_size widest c
  calculation_in (sum x more) h =
      sum_in (product_value env x) (product_size widest x) more (product_in x (within_first (product_terms x) (summand_terms more) h)) (within_second (product_terms x) (summand_terms more) h)

-- ---- a size is a part of itself, and what stands before it too

module _ (widest : List ℕ → ℕ) where
  pub times_part : (n : ℕ) (more : Factors) → n ≤ times_largest widest n more
  unfolding times_largest
  times_part n no_factor = omega arith
  times_part n (times s x more) = omega arith

  pub times_whole : (n : ℕ) (more : Factors) → times_size widest n more ≤ times_largest widest n more
  unfolding times_size times_largest
  times_whole n no_factor = omega arith
  times_whole n (times s x more) = let h = times_whole (n * operand_size widest x) more in omega arith

  pub sum_whole : (n : ℕ) (more : Summands) → sum_size widest n more ≤ sum_largest widest n more
  unfolding sum_size sum_largest
  sum_whole n no_summand = omega arith
  sum_whole n (plus s x more) = let h = sum_whole (n + product_size widest x) more in omega arith
  sum_whole n (minus s x more) = let h = sum_whole (n + product_size widest x) more in omega arith

  pub calculation_whole : (c : Calculation) → calculation_size widest c ≤ calculation_largest widest c
  calculation_whole (sum x more) = let h = sum_whole (product_size widest x) more in omega arith

-- "a calculation … whose size may pass 2^62" is refused: no other passes it
pub calculation_fits : (env : Environment) (widest : List ℕ → ℕ) (c : Calculation) → Within env widest (terms_of_calculation c) → too_large widest c ≡ false → nat_abs (calculation_value env c) ≤ 2 ^ 62
calculation_fits env widest c h e =
    let l = ltb-false (2 ^ 62) (calculation_largest widest c) e in omega (arith, calculation_in env widest c h, calculation_whole widest c, l)
