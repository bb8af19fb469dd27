use Prim.Native.Nat.{◌≤◌}
use mathlib.Core.Path.{refl}
use native.Mathlib.Omega.{arith}
use Rattle.text_encoding.specs.Numbers.{binds_one}
use Rattle.text_encoding.proofs.Sums.{sum_none, sum_next}
use Rattle.text_encoding.proofs.Sizes.{variable_length}
use Rattle.text_encoding.proofs.Writing.{writing_start, writing_turn, writing_end, one_less}
use Rattle.text_encoding.proofs.areas.put_variables.Goals as goal

pub loop-i-init : goal.loop-i-init
loop-i-init c = ((let z : 0 ≤ c.args.n = omega arith in z), sum_none (binds_one c.args.nodes.now), writing_start refl (omega arith) refl)

pub put_variable-x-requires : goal.put_variable-x-requires
put_variable-x-requires c = (c.requires.0, omega arith, c.loop-i.invariant.1)

pub loop-i-preserved : goal.loop-i-preserved
loop-i-preserved c = (omega arith, c.put_variable-x.ensures.1, writing_turn c.loop-i.invariant.2 (one_less _ _ c.loop-i-test.true) refl (omega (arith, c.put_variable-x.ensures.1, c.loop-i.invariant.1, sum_next c.loop-i.i (binds_one c.args.nodes.now), variable_length c.args.text.now c.args.nodes.now c.loop-i.i)) c.put_variable-x.ensures.0)

pub shape_of-table : goal.shape_of-table
shape_of-table c = c.loop-i.invariant.2.same

pub returns : goal.returns
returns c = writing_end c.loop-i.invariant.2 (omega arith)
