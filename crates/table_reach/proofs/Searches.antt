-- Laws of a search among numbers.
-- Assumes nothing.
use Prim.Native.Nat.{ℕ, zero, suc, ◌+◌, ◌-◌, ◌≤◌, ◌<◌, max}
use native.Mathlib.Decide.{dec_lt}
use native.Mathlib.Omega.{arith}
use mathlib.Core.Path.{◌≡◌, ap}
use Rattle.table_reach.specs.Closure.{some_of}

-- the loop over constructs: what is found so far, or is found in the rest
pub some_next : (f : ℕ → ℕ) (i end : ℕ) → i < end → some_of (end - i) f i ≡ max (f i) (some_of (end - (i + 1)) f (i + 1))
unfolding some_of
some_next f i end h = let e : end - i ≡ suc (end - (i + 1)) = omega arith in ap (λ (n : ℕ). some_of n f i) e

pub some_none : (f : ℕ → ℕ) (i end : ℕ) → end ≤ i → some_of (end - i) f i ≡ 0
unfolding some_of
some_none f i end h = let e : end - i ≡ 0 = omega arith in ap (λ (n : ℕ). some_of n f i) e

module _ (f : ℕ → ℕ) (binary : (i : ℕ) → f i ≤ 1) where
  pub some_binary : (n i : ℕ) → some_of n f i ≤ 1
  unfolding some_of
  some_binary zero i = omega arith
  some_binary (suc n) i = omega (arith, binary i, some_binary n (i + 1))

  -- what is found is there
  pub some_found : (n i : ℕ) → some_of n f i ≡ 1 → (j : ℕ) × (i ≤ j) × (j < i + n) × (f j ≡ 1)
  unfolding some_of
  some_found zero i e = absurd (omega arith)
  some_found (suc n) i e = elim (dec_lt (f i) 1) [
    | no h ↦ (i, omega arith, omega arith, omega (arith, binary i))
    | yes h ↦ let r = some_found n (i + 1) (omega (arith, some_binary n (i + 1))) in (r.0, omega (arith, r.1), omega (arith, r.2), r.3)
  ]

  -- what is there is found
  pub some_there : (n i j : ℕ) → i ≤ j → j < i + n → f j ≡ 1 → some_of n f i ≡ 1
  unfolding some_of
  some_there zero i j h l e = absurd (omega arith)
  some_there (suc n) i j h l e = elim (dec_lt i j) [
    | yes k ↦ omega (arith, some_there n (i + 1) j (omega arith) (omega arith) e, binary i)
    | no k ↦ let z : i ≡ j = omega arith in let g : f i ≡ 1 = rw z e in omega (arith, some_binary n (i + 1))
  ]

-- a turn of the loop
pub turn : (f : ℕ → ℕ) (i end x y all : ℕ) → i < end → max x (some_of (end - i) f i) ≡ all → y ≡ max x (f i) → max y (some_of (end - (i + 1)) f (i + 1)) ≡ all
turn f i end x y all h e g = omega (arith, some_next f i end h)
