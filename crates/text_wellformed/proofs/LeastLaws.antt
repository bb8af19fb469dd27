-- Where the least place is no place, none of the faults is there.
-- Assumes nothing.
use Prim.Native.Nat.{ℕ, ◌+◌, ◌-◌, ◌≤◌, ◌<◌, min}
use mathlib.Core.Path.{◌≡◌, refl}
use mathlib.Core.Bool.{Bool, true, false}
use native.Mathlib.Omega.{arith}
use Rattle.text_wellformed.proofs.Counting.{least_all}
use Rattle.text_names.specs.Counting.{nowhere, place_if, least_of, least_between}

pub min_first : (a b : ℕ) → min a b ≡ nowhere → a ≤ nowhere → a ≡ nowhere
min_first a b e h = omega arith

pub min_second : (a b : ℕ) → min a b ≡ nowhere → b ≤ nowhere → b ≡ nowhere
min_second a b e h = omega arith

-- a fault has a place
pub no_place : (fault : Bool) (p : ℕ) → nowhere ≤ place_if fault p → p < nowhere → fault ≡ false
no_place true p h l = absurd (omega arith)
no_place false p h l = refl

pub place_most : (fault : Bool) (p : ℕ) → p ≤ nowhere → place_if fault p ≤ nowhere
place_most true p h = h
place_most false p h = omega arith

-- ---- the least of many

-- a place past `nowhere` would hide behind it
pub least_clear : (n i : ℕ) (f : ℕ → ℕ) → least_of n i f ≡ nowhere → (j : ℕ) → i ≤ j → j < i + n → f j ≤ nowhere → f j ≡ nowhere
least_clear n i f e j g h l = omega (arith, least_all n i f (omega arith) j g h)

pub between_clear : (start end : ℕ) (f : ℕ → ℕ) → least_between start end f ≡ nowhere → (j : ℕ) → start ≤ j → j < end → f j ≤ nowhere → f j ≡ nowhere
between_clear start end f e j g h l = least_clear (end - start) start f e j g (omega arith) l

-- no fault among many, each at a place
pub faults_clear : (start end : ℕ) (fault : ℕ → Bool) (p : ℕ → ℕ) → least_between start end (λ k. place_if (fault k) (p k)) ≡ nowhere → (j : ℕ) → start ≤ j → j < end → p j < nowhere → fault j ≡ false
faults_clear start end fault p e j g h l =
    no_place (fault j) (p j) (omega (arith, between_clear start end (λ k. place_if (fault k) (p k)) e j g h (place_most (fault j) (p j) (omega arith)))) l
