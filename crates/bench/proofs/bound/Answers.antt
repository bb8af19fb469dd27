use Prim.Native.Nat.{◌+◌, ◌*◌, ◌≤◌}
use native.Mathlib.Nat.{mul-le-mul}
use native.Mathlib.Omega.{arith}
use Rattle.basis.specs.Limits.{max_weight, max_frame_bits}
use Rattle.bench.proofs.bound.Goals as goal

pub overflow_mul-result-2 : goal.overflow_mul-result-2
overflow_mul-result-2 c = let w : c.args.weight ≤ max_weight = omega arith in let b : 8 * c.args.bytes + 1 ≤ max_frame_bits + 1 = omega arith in let z : c.args.weight * (8 * c.args.bytes + 1) ≤ max_weight * (max_frame_bits + 1) = mul-le-mul w b in omega arith
