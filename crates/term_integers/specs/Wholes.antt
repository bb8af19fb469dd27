-- Exact whole numbers, bounded by 2^62.
-- Assumes nothing.
use Rattle.std.specs.Prelude.{◌^◌, Bool, true, false, cond, leb, ℤ, nat_abs, Option, Some, None}
use Rattle.std.specs.Int.Signed.{non_neg, le_z}

-- "i64 calculations ... bounded by 2^62"; exactly 2^62 is allowed
unfoldable pub bounded : ℤ → Option ℤ
bounded z = cond (leb (nat_abs z) (2 ^ 62)) (Some z) None

-- a = b
unfoldable pub equals : ℤ → ℤ → Bool
equals a b = cond (le_z a b) (le_z b a) false

-- both negative, or neither
unfoldable pub same_sign : ℤ → ℤ → Bool
same_sign a b = cond (non_neg a) (non_neg b) (cond (non_neg b) false true)
