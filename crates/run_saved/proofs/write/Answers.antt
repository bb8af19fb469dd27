use Prim.Native.Nat.{◌+◌, ◌-◌}
use native.Mathlib.Omega.{arith}
use mathlib.Core.Path.{refl, sym, ◌∙◌}
use lib.ListN.{length-set}
use Rattle.run_saved.proofs.Bytes.{write_start, write_turn, write_end}
use Rattle.run_saved.proofs.write.Goals as goal

-- src/lib.rt:32:5
pub loop-i-init : goal.loop-i-init
loop-i-init c = (omega arith, refl, write_start c.args.out.now c.args.at c.args.width c.args.number)

-- src/lib.rt:32:5
pub loop-i-preserved : goal.loop-i-preserved
loop-i-preserved c = (omega arith, length-set c.loop-i.out (c.args.at + c.loop-i.i) _ ∙ c.loop-i.invariant.1, c.loop-i.invariant.2 ∙ write_turn c.loop-i.out c.args.at c.args.width c.loop-i.i c.loop-i.n c.loop-i-test.true)

-- src/lib.rt:26:1
pub shape_of-out : goal.shape_of-out
shape_of-out c = c.loop-i.invariant.1

-- src/lib.rt:26:1
pub returns : goal.returns
returns c = sym (c.loop-i.invariant.2 ∙ write_end c.loop-i.out (c.args.at + c.loop-i.i) c.loop-i.n (c.args.width - c.loop-i.i) (omega arith))
