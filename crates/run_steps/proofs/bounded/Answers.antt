use Prim.Native.Nat.{◌+◌, ◌*◌, ◌≤◌}
use native.Mathlib.Omega.{arith}
use native.Mathlib.Nat.{mul-le-mul}
use lib.ListN.{length}
use borrow.Author.Tests.{le-leb, lt-leb}
use Rattle.basis.specs.Limits.{max_weight, max_frame_bits}
use Rattle.run_steps.proofs.bounded.Goals as goal

-- src/lib.rt:77:30
pub overflow_mul-result-then-weight-le-MAX_WEIGHT : goal.overflow_mul-result-then-weight-le-MAX_WEIGHT
overflow_mul-result-then-weight-le-MAX_WEIGHT c = record { fits = (let z : c.word-weight.result * (8 * length c.args.frame.now + 1) ≤ max_weight * (max_frame_bits + 1) = mul-le-mul {m₂ = max_frame_bits + 1} c.if-weight-le-MAX_WEIGHT.true (omega arith) in omega arith) }

-- src/lib.rt:77:9
pub returns-then-weight-le-MAX_WEIGHT : goal.returns-then-weight-le-MAX_WEIGHT
returns-then-weight-le-MAX_WEIGHT c = simp (← c.word-weight.ensures.0, le-leb _ _ c.if-weight-le-MAX_WEIGHT.true)

-- src/lib.rt:71:1
pub returns : goal.returns
returns c = simp (← c.word-weight.ensures.0, lt-leb _ _ c.if-weight-le-MAX_WEIGHT.false)
