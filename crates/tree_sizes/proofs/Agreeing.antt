-- Calculations whose variables have the same sizes have the same faults.
-- Assumes nothing.
use Prim.Native.Nat.{ℕ, ◌+◌, ◌*◌, ◌^◌, max}
use mathlib.Core.Path.{◌≡◌, refl, ap₂}
use mathlib.Core.List.{List, [], ◌∷◌, ◌++◌}
use lib.Dec.{ltb}
use Rattle.tree.specs.Tree.{Primary, number, variable, Operand, plain, opposite, Factors, no_factor, times, Product, product, Summands, no_summand, plus, minus, Calculation, sum}
use Rattle.tree.specs.Spelling.{spell_calculation}
use Rattle.tree_meaning.specs.Pieces.{Term, a_number, a_use, a_sign, primary_terms, operand_terms, factor_terms, product_terms, summand_terms, terms_of_calculation, Component, whole_number, joined_by, terms_of}
use Rattle.tree_meaning.specs.Places.{place_if, first_byte}
use Rattle.tree_meaning.specs.Sizes.{primary_size, operand_size, times_size, product_size, times_largest, product_largest, sum_largest, calculation_largest, calculation_faults}

module _ (f g : List ℕ → ℕ) where
  -- of the variables that are used among these terms
  unfoldable pub Agree : List Term → Type 0
  Agree [] = Unit {0}
  Agree (a_number n ∷ more) = Agree more
  Agree (a_use x ∷ more) = (f x.letters ≡ g x.letters) × Agree more
  Agree (a_sign s ∷ more) = Agree more

  agree_first : (l m : List Term) → Agree (l ++ m) → Agree l
  unfolding Agree
  agree_first [] m h = tt
  agree_first (a_number n ∷ l) m h = agree_first l m h
  agree_first (a_use x ∷ l) m h = (h.0, agree_first l m h.1)
  agree_first (a_sign s ∷ l) m h = agree_first l m h

  agree_second : (l m : List Term) → Agree (l ++ m) → Agree m
  unfolding Agree
  agree_second [] m h = h
  agree_second (a_number n ∷ l) m h = agree_second l m h
  agree_second (a_use x ∷ l) m h = agree_second l m h.1
  agree_second (a_sign s ∷ l) m h = agree_second l m h

  primary_agrees : (x : Primary) → Agree (primary_terms x) → primary_size f x ≡ primary_size g x
  unfolding Agree
  primary_agrees (number n) h = refl
  primary_agrees (variable x) h = h.0

  operand_agrees : (x : Operand) → Agree (operand_terms x) → operand_size f x ≡ operand_size g x
  unfolding Agree
  operand_agrees (plain x) h = primary_agrees x h
  operand_agrees (opposite s x) h = primary_agrees x h

  times_agree : (a b : ℕ) (x : Factors) → a ≡ b → Agree (factor_terms x) → (times_size f a x ≡ times_size g b x) × (times_largest f a x ≡ times_largest g b x)
  unfolding Agree factor_terms times_size times_largest
  times_agree a b no_factor e h = (e, e)
  times_agree a b (times s x more) e h =
      let o = operand_agrees x (agree_first (operand_terms x) (factor_terms more) h) in
      let q = times_agree (a * operand_size f x) (b * operand_size g x) more (ap₂ ◌*◌ e o) (agree_second (operand_terms x) (factor_terms more) h) in
      (q.0, λ t. max (e t) (max (o t) (q.1 t)))

  product_agrees : (x : Product) → Agree (product_terms x) → (product_size f x ≡ product_size g x) × (product_largest f x ≡ product_largest g x)
  product_agrees (product x more) h = times_agree (operand_size f x) (operand_size g x) more (operand_agrees x (agree_first (operand_terms x) (factor_terms more) h)) (agree_second (operand_terms x) (factor_terms more) h)

  sum_agrees : (a b : ℕ) (x : Summands) → a ≡ b → Agree (summand_terms x) → sum_largest f a x ≡ sum_largest g b x
  unfolding Agree summand_terms sum_largest
  sum_agrees a b no_summand e h = e
  sum_agrees a b (plus s x more) e h =
      let o = product_agrees x (agree_first (product_terms x) (summand_terms more) h) in
      let q = sum_agrees (a + product_size f x) (b + product_size g x) more (ap₂ ◌+◌ e o.0) (agree_second (product_terms x) (summand_terms more) h) in
      λ t. max (e t) (max (o.1 t) (q t))
  sum_agrees a b (minus s x more) e h =
      let o = product_agrees x (agree_first (product_terms x) (summand_terms more) h) in
      let q = sum_agrees (a + product_size f x) (b + product_size g x) more (ap₂ ◌+◌ e o.0) (agree_second (product_terms x) (summand_terms more) h) in
      λ t. max (e t) (max (o.1 t) (q t))

  calculation_agrees : (c : Calculation) → Agree (terms_of_calculation c) → calculation_largest f c ≡ calculation_largest g c
  calculation_agrees (sum x more) h =
      let o = product_agrees x (agree_first (product_terms x) (summand_terms more) h) in
      let q = sum_agrees (product_size f x) (product_size g x) more o.0 (agree_second (product_terms x) (summand_terms more) h) in
      λ t. max (o.1 t) (q t)

  -- the faults of components
  pub same_faults : (l : List Component) → Agree (terms_of l) → calculation_faults f l ≡ calculation_faults g l
  unfolding Agree terms_of calculation_faults
  same_faults [] h = refl
  same_faults (whole_number c ∷ l) h =
      let e = calculation_agrees c (agree_first (terms_of_calculation c) (terms_of l) h) in
      let q = same_faults l (agree_second (terms_of_calculation c) (terms_of l) h) in
      λ t. place_if (ltb (2 ^ 62) (e t)) (first_byte (spell_calculation c [])) ++ q t
  same_faults (joined_by s ∷ l) h = same_faults l h
