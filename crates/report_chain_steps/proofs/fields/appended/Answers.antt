use native.Mathlib.Omega.{arith}
use Prim.Native.Nat.{ℕ, ◌+◌, ◌-◌, ◌*◌, ◌≤◌}
use mathlib.Core.Path.{ap}
use native.Mathlib.Nat.{mul-le-mul}
use Rattle.report_chain_steps.proofs.fields.appended.Goals as goal

pub overflow_mul-result : goal.overflow_mul-result
overflow_mul-result c = let u : c.args.a - 1 ≤ 255 = omega (arith, c.requires.1) in let p : c.power.result ≤ 256 = c.power.ensures.1 in let z : (c.args.a - 1) * c.power.result ≤ 255 * 256 = mul-le-mul u p in omega (arith, z)

pub overflow_add-result : goal.overflow_add-result
overflow_add-result c = let u : c.args.a - 1 ≤ 255 = omega (arith, c.requires.1) in let p : c.power.result ≤ 256 = c.power.ensures.1 in let z : (c.args.a - 1) * c.power.result ≤ 255 * 256 = mul-le-mul u p in omega (arith, z, c.requires.2)

pub returns : goal.returns
returns c = ap (λ (k : ℕ). (c.args.a - 1) * k + c.args.b) c.power.ensures.0
