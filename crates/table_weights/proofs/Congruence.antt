-- Weights that are the same up to a bound below a node are so at the node.
-- Assumes nothing.
use Prim.Native.Nat.{ℕ, ◌+◌, max, min}
use native.Mathlib.Omega.{arith}
use mathlib.Core.Path.{◌≡◌, refl, sym, ap, ap₂, ◌∙◌}
use mathlib.Core.List.{List, [], ◌∷◌}
use mathlib.Core.Option.{none, some}
use Rattle.theory.specs.Grammar.{alternative, concatenation, repetition, switch, use_of, field, eod}
use Rattle.theory.specs.Weight.{sum, largest, weigh}
use Rattle.table_layout.specs.Held.{Context, first_context, HeldNode}
use Rattle.table_weights.proofs.Children.{All, Each}

module _ (m : ℕ) where
  plus : (a b c d : ℕ) → min m a ≡ min m b → min m c ≡ min m d → min m (a + c) ≡ min m (b + d)
  plus a b c d e f = omega arith

  max_min : (a c : ℕ) → min m (max a c) ≡ max (min m a) (min m c)
  max_min a c = omega arith

  larger : (a b c d : ℕ) → min m a ≡ min m b → min m c ≡ min m d → min m (max a c) ≡ min m (max b d)
  larger a b c d e f = max_min a c ∙ ap₂ max e f ∙ sym (max_min b d)

  one_more : (a b : ℕ) → min m a ≡ min m b → min m (1 + a) ≡ min m (1 + b)
  one_more a b e = omega arith

module _ (m : ℕ) (f g : ℕ → ℕ) where
  sum_same : (is : List ℕ) → All (λ k. min m (f k) ≡ min m (g k)) is → min m (sum f is) ≡ min m (sum g is)
  unfolding sum
  sum_same [] a = refl
  sum_same (i ∷ is) a = plus m (f i) (g i) (sum f is) (sum g is) a.0 (sum_same is a.1)

  largest_same : (is : List ℕ) → All (λ k. min m (f k) ≡ min m (g k)) is → min m (largest f is) ≡ min m (largest g is)
  unfolding largest
  largest_same [] a = refl
  largest_same (i ∷ is) a = larger m (f i) (g i) (largest f is) (largest g is) a.0 (largest_same is a.1)

module _ (m : ℕ) (f g : Context → ℕ → ℕ) where
  pub weigh_same : (n : HeldNode) → Each (λ k. min m (f first_context k) ≡ min m (g first_context k)) n → min m (weigh f first_context n) ≡ min m (weigh g first_context n)
  unfolding weigh
  weigh_same (alternative is) a = one_more m (largest (f tt) is) (largest (g tt) is) (largest_same m (f tt) (g tt) is a)
  weigh_same (concatenation is) a = one_more m (sum (f tt) is) (sum (g tt) is) (sum_same m (f tt) (g tt) is a)
  weigh_same (repetition counts static fixed b) a = omega arith
  weigh_same (switch chosen optional is) a = one_more m (largest (f tt) is) (largest (g tt) is) (largest_same m (f tt) (g tt) is a)
  weigh_same (use_of enters opens closes b) a =
      elim (enters tt) as (λ o. min m (elim o [ none ↦ 1 | some c' ↦ 1 + f c' b ]) ≡ min m (elim o [ none ↦ 1 | some c' ↦ 1 + g c' b ]))
      [ none ↦ refl | some c' ↦ one_more m (f first_context b) (g first_context b) a ]
  weigh_same (field w admits static binds) a = refl
  weigh_same eod a = refl

all_map : (P Q : ℕ → Type 0) → ((k : ℕ) → P k → Q k) → (is : List ℕ) → All P is → All Q is
all_map P Q f [] a = tt
all_map P Q f (i ∷ is) a = (f i a.0, all_map P Q f is a.1)

pub each_map : (P Q : ℕ → Type 0) → ((k : ℕ) → P k → Q k) → (n : HeldNode) → Each P n → Each Q n
each_map P Q f (alternative is) a = all_map P Q f is a
each_map P Q f (concatenation is) a = all_map P Q f is a
each_map P Q f (repetition counts static fixed b) a = f b a
each_map P Q f (switch chosen optional is) a = all_map P Q f is a
each_map P Q f (use_of enters opens closes b) a = f b a
each_map P Q f (field w admits static binds) a = tt
each_map P Q f eod a = tt

-- the same below a node, the same at the node
pub weigh_equal : (f g : Context → ℕ → ℕ) (n : HeldNode) → Each (λ k. f first_context k ≡ g first_context k) n → weigh f first_context n ≡ weigh g first_context n
weigh_equal f g n a =
    let m = weigh f first_context n + weigh g first_context n in
    let e : min m (weigh f first_context n) ≡ min m (weigh g first_context n) = weigh_same m f g n (each_map (λ k. f first_context k ≡ g first_context k) (λ k. min m (f first_context k) ≡ min m (g first_context k)) (λ k e. ap (min m) e) n a) in
    omega arith
