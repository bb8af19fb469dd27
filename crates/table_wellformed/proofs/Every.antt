-- Laws of a test of many numbers, as a loop goes.
-- Assumes nothing.
use Prim.Native.Nat.{ℕ, suc, ◌+◌, ◌-◌, ◌≤◌, ◌<◌}
use mathlib.Core.Path.{◌≡◌}
use mathlib.Core.Bool.{Bool, true, false}
use native.Mathlib.Omega.{arith}
use Rattle.table_wellformed.specs.Checks.{every, from_to}

-- what is left of the numbers up to `end`, from i on
pub left : (end i : ℕ) → i < end → end - i ≡ suc (end - (i + 1))
left end i h = omega arith

pub every_turn : (end i : ℕ) (f : ℕ → Bool) → i < end → f i ≡ true → from_to i end f ≡ from_to (i + 1) end f
unfolding every
every_turn end i f h e = rw (left end i h, e, every)

pub every_stop : (end i : ℕ) (f : ℕ → Bool) → i < end → f i ≡ false → from_to i end f ≡ false
unfolding every
every_stop end i f h e = rw (left end i h, e, every)

pub every_end : (end i : ℕ) (f : ℕ → Bool) → end ≤ i → from_to i end f ≡ true
unfolding every
every_end end i f h = let z : end - i ≡ 0 = omega arith in rw z
