-- The least place among many, and whether one of many passes a test.
-- Assumes nothing.
use Rattle.std.specs.Prelude.{ℕ, zero, suc, ◌+◌, ◌-◌, min, Bool, true, false, cond}

-- no place
abbrev pub nowhere : ℕ
nowhere = 18446744073709551615

-- a place, where there is a fault
abbrev pub place_if : Bool → ℕ → ℕ
place_if fault p = cond fault p nowhere

-- the least of n places from number i on
unfoldable pub least_of : ℕ → ℕ → (ℕ → ℕ) → ℕ
least_of zero i f = nowhere
least_of (suc n) i f = min (f i) (least_of n (i + 1) f)

-- one of n numbers from i on passes a test
unfoldable pub any_of : ℕ → ℕ → (ℕ → Bool) → Bool
any_of zero i f = false
any_of (suc n) i f = elim (f i) [ true ↦ true | false ↦ any_of n (i + 1) f ]

-- the least place of the numbers from `start` up to `end`
abbrev pub least_between : ℕ → ℕ → (ℕ → ℕ) → ℕ
least_between start end f = least_of (end - start) start f

-- one of these numbers passes a test
abbrev pub any_between : ℕ → ℕ → (ℕ → Bool) → Bool
any_between start end f = any_of (end - start) start f
