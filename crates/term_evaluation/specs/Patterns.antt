-- Fields of up to 64 bits have values past every calculation: "numbers … bounded by 2^62", and a set holds all further whole numbers of one sign or
-- none of them. Only the crate's own helpers promise this.
-- Assumes nothing.
use Rattle.std.specs.Prelude.{◌+◌, ◌^◌, cond, leb, ℤ, pos, negsuc, nat_abs}
use Rattle.std.specs.Int.Signed.{non_neg}

-- a whole number, or the next past 2^62 with its sign
unfoldable pub clamped : ℤ → ℤ
clamped z = cond (leb (nat_abs z) (2 ^ 62)) z (cond (non_neg z) (pos (2 ^ 62 + 1)) (negsuc (2 ^ 62)))
