-- Tests of many numbers that all pass.
-- Assumes nothing.
use Prim.Native.Nat.{ℕ, zero, suc, ◌+◌, ◌-◌, ◌≤◌, ◌<◌}
use mathlib.Core.Path.{◌≡◌, refl, ◌∙◌}
use mathlib.Core.Bool.{Bool, true}
use native.Mathlib.Omega.{arith}
use Rattle.table_wellformed.specs.Checks.{every, from_to}

every_on : (n i : ℕ) (f : ℕ → Bool) → f i ≡ true → every (suc n) i f ≡ every n (i + 1) f
unfolding every
every_on n i f e = rw (e, every)

every_all : (n i : ℕ) (f : ℕ → Bool) → ((j : ℕ) → i ≤ j → j < i + n → f j ≡ true) → every n i f ≡ true
unfolding every
every_all zero i f h = refl
every_all (suc n) i f h = every_on n i f (h i (omega arith) (omega arith)) ∙ every_all n (i + 1) f (λ j a b. h j (omega arith) (omega arith))

pub from_to_all : (start end : ℕ) (f : ℕ → Bool) → ((j : ℕ) → start ≤ j → j < end → f j ≡ true) → from_to start end f ≡ true
from_to_all start end f h = every_all (end - start) start f (λ j a b. h j a (omega arith))
