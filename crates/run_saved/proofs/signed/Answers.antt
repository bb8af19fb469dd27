use Rattle.run_saved.proofs.Patterns.{whole_low, whole_high, read_back}
use Prim.Native.Nat.{◌-◌, ◌^◌, suc}
use mathlib.Core.Path.{◌≡◌, ap, sym, ◌∙◌}
use native.Mathlib.Omega.{arith}
use lib.IntN.{negsuc}
use Rattle.run_saved.proofs.signed.Goals as goal

-- src/lib.rt:81:1
pub returns-then-n-lt9223372036854775808 : goal.returns-then-n-lt9223372036854775808
returns-then-n-lt9223372036854775808 c = read_back c.signed.result _ c.signed.type_inv (c.signed.ensures ∙ sym (whole_low c.args.n c.if-n-lt9223372036854775808.true))

-- src/lib.rt:81:1
pub returns-else-n-lt9223372036854775808 : goal.returns-else-n-lt9223372036854775808
returns-else-n-lt9223372036854775808 c = let e : 18446744073709551615 - c.args.n ≡ 2 ^ 64 - suc c.args.n = omega arith in read_back c.negative.result _ c.negative.type_inv (c.negative.ensures ∙ ap negsuc e ∙ sym (whole_high c.args.n c.if-n-lt9223372036854775808.false))
