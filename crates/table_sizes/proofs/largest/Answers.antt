use Prim.Native.Nat.{ℕ, ◌^◌, ◌≤◌, ◌<◌}
use mathlib.Core.Path.{ap, ◌∙◌}
use native.Mathlib.Omega.{arith}
use lib.Pow.{pow_mono, pow_pos}
use Rattle.table_sizes.proofs.WidestLaws.{largest_signed, largest_unsigned, stored_back}
use Rattle.table_sizes.proofs.largest.Goals as goal

pub power-requires : goal.power-requires
power-requires c = omega (arith, c.one_less.ensures, c.bound_width-most.ensures)

pub signed-requires : goal.signed-requires
signed-requires c = let p : 2 ^ c.one_less.result ≤ 2 ^ 62 = pow_mono {j = 62} (omega (arith, c.one_less.ensures, c.bound_width-most.ensures)) in record { sfits = omega (arith, c.power.ensures) }

pub returns-then-sign-gt0 : goal.returns-then-sign-gt0
returns-then-sign-gt0 c = let a = c.args in stored_back _ a.width a.sign (c.signed.ensures ∙ largest_signed a.width a.sign c.bound_width-most.result c.power.result (omega (arith, c.if-sign-gt0.true)) c.bound_width-most.ensures (c.power.ensures ∙ ap (λ (n : ℕ). 2 ^ n) c.one_less.ensures))

pub power-requires-2 : goal.power-requires-2
power-requires-2 c = omega (arith, c.bound_width-most.ensures)

pub overflow_sub-power : goal.overflow_sub-power
overflow_sub-power c = let p : 0 < 2 ^ c.bound_width-most.result = pow_pos c.bound_width-most.result in omega (arith, c.power-2.ensures)

pub signed-requires-2 : goal.signed-requires-2
signed-requires-2 c = let p : 2 ^ c.bound_width-most.result ≤ 2 ^ 62 = pow_mono {j = 62} (omega (arith, c.bound_width-most.ensures)) in record { sfits = omega (arith, c.power-2.ensures) }

pub returns : goal.returns
returns c = let a = c.args in stored_back _ a.width a.sign (c.signed-2.ensures ∙ largest_unsigned a.width a.sign c.bound_width-most.result c.power-2.result (omega (arith, c.if-sign-gt0.false)) c.bound_width-most.ensures c.power-2.ensures)
