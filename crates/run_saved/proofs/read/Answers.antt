use Prim.Native.Nat.{◌+◌, ◌-◌}
use native.Mathlib.Omega.{arith}
use lib.ListN.{drop}
use Rattle.run_saved.proofs.Bytes.{read_turn, read_small, read_none, read_all}
use Rattle.run_saved.proofs.read.Goals as goal

-- src/lib.rt:18:5
pub loop-left-init : goal.loop-left-init
loop-left-init c = let z = read_none (c.args.width - c.args.width) (drop (c.args.at + c.args.width) c.args.bytes.now) (omega arith) in (omega arith, z.0, z.1)

-- src/lib.rt:20:13
pub overflow_mul-n : goal.overflow_mul-n
overflow_mul-n c = let z = (read_small c.args.width c.loop-left.left c.loop-left.n 0 c.loop-left-test.true c.loop-left.invariant.0 c.requires.1 c.loop-left.invariant.2 (omega arith)).1 in record { fits = omega (arith, z) }

-- src/lib.rt:20:24
pub overflow_cast-n : goal.overflow_cast-n
overflow_cast-n c = omega (arith, c.shared_slice_known-1.given (c.args.at + (c.loop-left.left - 1)))

-- src/lib.rt:20:13
pub overflow_add-n-in-loop-left : goal.overflow_add-n-in-loop-left
overflow_add-n-in-loop-left c = record { fits = (read_small c.args.width c.loop-left.left c.loop-left.n _ c.loop-left-test.true c.loop-left.invariant.0 c.requires.1 c.loop-left.invariant.2 (c.shared_slice_known-1.given (c.args.at + (c.loop-left.left - 1))).fits).1 }

-- src/lib.rt:18:5
pub loop-left-preserved : goal.loop-left-preserved
loop-left-preserved c = (omega arith, read_turn c.args.bytes.now c.args.at c.args.width c.loop-left.left c.loop-left.n c.loop-left-test.true c.loop-left.invariant.0 c.requires.0 c.loop-left.invariant.1, (read_small c.args.width c.loop-left.left c.loop-left.n _ c.loop-left-test.true c.loop-left.invariant.0 c.requires.1 c.loop-left.invariant.2 (c.shared_slice_known-1.given (c.args.at + (c.loop-left.left - 1))).fits).0)

-- src/lib.rt:12:1
pub returns : goal.returns
returns c = read_all c.args.bytes.now c.args.at c.args.width c.loop-left.left c.loop-left.n c.loop-left-test.false c.loop-left.invariant.1 c.loop-left.invariant.2
