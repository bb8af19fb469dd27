use Prim.Native.Nat.{◌≤◌}
use mathlib.Core.Path.{refl}
use native.Mathlib.Omega.{arith}
use Rattle.text_encoding.proofs.Sizes.{literal_length}
use Rattle.text_encoding.proofs.Writing.{writing_start, writing_turn, writing_end, one_less}
use Rattle.text_encoding.proofs.areas.put_literals.Goals as goal

pub loop-i-init : goal.loop-i-init
loop-i-init c = ((let z : 0 ≤ c.args.n = omega arith in z), writing_start refl (omega arith) refl)

pub literal-requires : goal.literal-requires
literal-requires c = (c.requires.0, omega arith)

pub loop-i-preserved : goal.loop-i-preserved
loop-i-preserved c = (omega arith, writing_turn c.loop-i.invariant.1 (one_less _ _ c.loop-i-test.true) refl (omega (arith, literal_length c.args.text.now c.args.nodes.now c.loop-i.i)) c.literal.ensures)

pub shape_of-table : goal.shape_of-table
shape_of-table c = c.loop-i.invariant.1.same

pub returns : goal.returns
returns c = writing_end c.loop-i.invariant.1 (omega arith)
