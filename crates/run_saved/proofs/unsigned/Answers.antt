use Rattle.run_saved.proofs.Patterns.{pattern_negative, pattern_positive, negative_some}
use Rattle.term_integers.proofs.Laws.{read₁}
use Prim.Native.Nat.{◌-◌, ◌^◌}
use mathlib.Core.Path.{◌≡◌, sym, ◌∙◌}
use mathlib.Core.Bool.{true, false, not}
use native.Mathlib.Omega.{arith}
use lib.IntN.{ℤ, nat_abs}
use lib.Signed.{non_neg}
use Rattle.run_saved.proofs.unsigned.Goals as goal

-- src/lib.rt:97:33
pub overflow_sub-result : goal.overflow_sub-result
overflow_sub-result c = let h : not (non_neg c.args.z) ≡ true = sym (read₁ (λ (z : ℤ). not (non_neg z)) c.args.z c.ranges.z.sfits c.negative.ensures) ∙ c.if-negative.true in let m : c.magnitude-n.result ≡ nat_abs c.args.z = read₁ nat_abs c.args.z c.ranges.z.sfits c.magnitude-n.ensures in omega (arith, negative_some c.args.z h)

-- src/lib.rt:92:1
pub returns-then-negative : goal.returns-then-negative
returns-then-negative c = let h : not (non_neg c.args.z) ≡ true = sym (read₁ (λ (z : ℤ). not (non_neg z)) c.args.z c.ranges.z.sfits c.negative.ensures) ∙ c.if-negative.true in let m : c.magnitude-n.result ≡ nat_abs c.args.z = read₁ nat_abs c.args.z c.ranges.z.sfits c.magnitude-n.ensures in let e : 18446744073709551615 - (c.magnitude-n.result - 1) ≡ 2 ^ 64 - nat_abs c.args.z = omega (arith, negative_some c.args.z h) in e ∙ sym (pattern_negative c.args.z h)

-- src/lib.rt:92:1
pub returns-else-negative : goal.returns-else-negative
returns-else-negative c = let h : not (non_neg c.args.z) ≡ false = sym (read₁ (λ (z : ℤ). not (non_neg z)) c.args.z c.ranges.z.sfits c.negative.ensures) ∙ c.if-negative.false in let m : c.magnitude-n.result ≡ nat_abs c.args.z = read₁ nat_abs c.args.z c.ranges.z.sfits c.magnitude-n.ensures in m ∙ sym (pattern_positive c.args.z h)
