use Prim.Native.Nat.{◌+◌, ◌≤◌}
use mathlib.Core.Path.{refl, ap₂}
use native.Mathlib.Omega.{arith}
use Rattle.text_encoding.specs.Numbers.{lists_length}
use Rattle.text_encoding.proofs.Sums.{sum_none, sum_next, sum_turn, sum_holds}
use Rattle.text_encoding.proofs.Sizes.{construct_length}
use Rattle.text_encoding.proofs.Writing.{writing_start, writing_turn, writing_end, one_less}
use Rattle.text_encoding.proofs.areas.put_constructs.Goals as goal

pub loop-i-init : goal.loop-i-init
loop-i-init c = ((let z : 0 ≤ c.args.n = omega arith in z), sum_none (lists_length c.args.nodes.now), writing_start refl (omega arith) refl)

pub construct-requires : goal.construct-requires
construct-requires c = (c.requires.0, c.requires.1, omega arith, c.loop-i.invariant.1, omega (arith, sum_holds c.loop-i.i c.args.n (lists_length c.args.nodes.now) c.loop-i-test.true, sum_next c.loop-i.i (lists_length c.args.nodes.now)))

pub condition_length-requires : goal.condition_length-requires
condition_length-requires c = c.requires.0

pub own_length-requires : goal.own_length-requires
own_length-requires c = c.requires.0

pub overflow_add-q : goal.overflow_add-q
overflow_add-q c = omega (arith, sum_holds c.loop-i.i c.args.n (lists_length c.args.nodes.now) c.loop-i-test.true)

pub overflow_add-q-in-loop-i : goal.overflow_add-q-in-loop-i
overflow_add-q-in-loop-i c = omega (arith, sum_holds c.loop-i.i c.args.n (lists_length c.args.nodes.now) c.loop-i-test.true)

pub loop-i-preserved : goal.loop-i-preserved
loop-i-preserved c = (omega arith, sum_turn c.loop-i.i (c.condition_length.result + c.own_length.result) c.loop-i.q (lists_length c.args.nodes.now) c.loop-i.invariant.1 (ap₂ ◌+◌ c.condition_length.ensures c.own_length.ensures), writing_turn c.loop-i.invariant.2 (one_less _ _ c.loop-i-test.true) refl (omega (arith, construct_length c.args.text.now c.args.nodes.now c.args.rules.now c.args.r c.loop-i.i)) c.construct.ensures)

pub shape_of-table : goal.shape_of-table
shape_of-table c = c.loop-i.invariant.2.same

pub returns : goal.returns
returns c = writing_end c.loop-i.invariant.2 (omega arith)
