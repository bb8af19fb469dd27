-- Laws of 13: which uints have no value left, by trying the patterns of their width, and which have one.
-- Assumes nothing.
use Prim.Native.Nat.{ℕ, zero, suc, ◌<◌}
use mathlib.Core.Path.{◌≡◌, refl}
use mathlib.Core.Bool.{Bool, true, false, not, ◌&&◌}
use mathlib.Core.List.{List, [], ◌∷◌}
use native.Mathlib.Omega.{arith}
use lib.ListN.{length, get_or, take}
use Rattle.basis.specs.Bits.{Bits}
use Rattle.basis.proofs.Booleans.{both_first, both_second, not_true}
use Rattle.theory.specs.Grammar.{alternative}
use Rattle.tree.specs.Tree.{Rules}
use Rattle.tree_meaning.specs.Grammar.{Construct, plain_at, tree_constructs, construct_numbered, NoValue}
use Rattle.tree_meaning.specs.Rows.{IsEmpty, NoValues}

-- ---- no pattern of n bits passes a test

unfoldable pub none_among : ℕ → (Bits → Bool) → Bool
none_among zero f = not (f [])
none_among (suc n) f = none_among n (λ s. f (true ∷ s)) && none_among n (λ s. f (false ∷ s))

pub none_of : (n : ℕ) (f : Bits → Bool) → none_among n f ≡ true → (s : Bits) → length s ≡ n → f s ≡ false
unfolding none_among
none_of zero f e [] l = not_true (f []) e
none_of zero f e (b ∷ s) l = absurd (omega (arith, l))
none_of (suc n) f e [] l = absurd (omega (arith, l))
none_of (suc n) f e (true ∷ s) l = none_of n (λ s. f (true ∷ s)) (both_first (none_among n (λ s. f (true ∷ s))) (none_among n (λ s. f (false ∷ s))) e) s (omega (arith, l))
none_of (suc n) f e (false ∷ s) l = none_of n (λ s. f (false ∷ s)) (both_second (none_among n (λ s. f (true ∷ s))) (none_among n (λ s. f (false ∷ s))) e) s (omega (arith, l))

-- ---- each uint has a value, or a variable

-- all constructs of a list
unfoldable pub AllValued : List Construct → Type 0
AllValued [] = Unit {0}
AllValued (c ∷ more) = (NoValue c.uint → ⊥) × AllValued more

module _ (d : Construct) (none_there : NoValue d.uint → ⊥) where
  at_number : (cs : List Construct) (i : ℕ) → AllValued cs → NoValue (get_or cs i d).uint → ⊥
  unfolding AllValued
  at_number [] i h = none_there
  at_number (c ∷ more) zero h = h.0
  at_number (c ∷ more) (suc i) h = at_number more i h.1

  -- those before number n
  before : (cs : List Construct) (n i : ℕ) → i < n → AllValued (take n cs) → NoValue (get_or cs i d).uint → ⊥
  unfolding AllValued
  before cs zero i l h = absurd (omega arith)
  before [] (suc n) i l h = none_there
  before (c ∷ more) (suc n) zero l h = h.0
  before (c ∷ more) (suc n) (suc i) l h = before more n i (omega arith) h.1

pub all_valued : (t : Rules) → AllValued (tree_constructs t) → (i : ℕ) → IsEmpty t i → ⊥
all_valued t h i = at_number (plain_at 0 (alternative [])) (λ e. e) (tree_constructs t) i h

-- the first without a value is number i
pub first_empty : (t : Rules) (i : ℕ) → IsEmpty t i → AllValued (take i (tree_constructs t)) → NoValues t (construct_numbered t i).place
first_empty t i e h = (i, e, (λ j l. before (plain_at 0 (alternative [])) (λ e. e) (tree_constructs t) i j l h), refl)
