-- Laws of the smallest place: there is none exactly where there is no fault, and else it is a fault's place and no fault has a smaller.
-- Assumes nothing.
use Prim.Native.Nat.{ℕ, ◌≤◌}
use mathlib.Core.Path.{◌≡◌, refl, subst}
use mathlib.Core.Logic.{◌⊎◌, inl, inr, ⊎_elim}
use mathlib.Core.Bool.{Bool, true, false}
use mathlib.Core.List.Memᴰ
use mathlib.Core.List.{List, [], ◌∷◌, ◌++◌, Memᴰ}
use mathlib.Core.Option.{Option, none, some}
use native.Mathlib.Omega.{arith}
use borrow.Author.Tests.{leb-true, leb-false}
use lib.Dec.{leb}
use Rattle.basis.proofs.Booleans.{which}
use Rattle.tree_meaning.specs.Places.{place_if, lesser, least}

-- ---- no fault

pub no_place : (b : Bool) (p : ℕ) → place_if b p ≡ [] → b ≡ false
no_place true p e = let z : ◌≡◌ {A = ℕ} 0 1 = cc in absurd (omega arith)
no_place false p e = refl

pub no_first : {A : Type 0} (xs ys : List A) → xs ++ ys ≡ [] → xs ≡ []
no_first [] ys e = refl
no_first (x ∷ xs) ys e = let z : ◌≡◌ {A = ℕ} 0 1 = cc in absurd (omega arith)

pub no_second : {A : Type 0} (xs ys : List A) → xs ++ ys ≡ [] → ys ≡ []
no_second [] ys e = e
no_second (x ∷ xs) ys e = let z : ◌≡◌ {A = ℕ} 0 1 = cc in absurd (omega arith)

pub no_least : (xs : List ℕ) → least xs ≡ none → xs ≡ []
unfolding least
no_least [] e = refl
no_least (p ∷ more) e = let z : ◌≡◌ {A = ℕ} 0 1 = cc in absurd (omega arith)

-- ---- the smallest

-- what an answer says of the places
abbrev pub Smallest : List ℕ → Option ℕ → Type 0
Smallest xs none = xs ≡ []
Smallest xs (some p) = Memᴰ p xs × ((q : ℕ) → Memᴰ q xs → p ≤ q)

nothing_in : {q : ℕ} {xs : List ℕ} → xs ≡ [] → Memᴰ q xs → ⊥
nothing_in {q} e m = Memᴰ.not-nil (subst (λ (ys : List ℕ). Memᴰ q ys) e m)

one_more : (p : ℕ) (more : List ℕ) (o : Option ℕ) → Smallest more o → Smallest (p ∷ more) (some (lesser p o))
one_more p more none e = (Memᴰ.head refl, λ q m. ⊎_elim (λ f. omega (arith, f)) (λ n. absurd (nothing_in e n)) (Memᴰ.cases_cons m))
one_more p more (some r) s = (
  ⊎_elim (λ h. Memᴰ.head (omega (arith, h))) (λ h. Memᴰ.tail (Memᴰ.cast (omega (arith, h)) s.0)) (le_or p r),
  λ q m. ⊎_elim (λ f. omega (arith, f)) (λ n. omega (arith, s.1 q n)) (Memᴰ.cases_cons m),
)
  where
    le_or : (a b : ℕ) → (a ≤ b) ⊎ (b ≤ a)
    le_or a b = ⊎_elim (λ e. inl (leb-true a b e)) (λ e. inr (omega (arith, leb-false a b e))) (which (leb a b))

pub smallest : (xs : List ℕ) → Smallest xs (least xs)
unfolding least
smallest [] = refl
smallest (p ∷ more) = one_more p more (least more) (smallest more)
