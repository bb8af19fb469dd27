use Prim.Native.Nat.{◌+◌, ◌≤◌}
use mathlib.Core.Path.{◌≡◌, ap₂}
use native.Mathlib.Omega.{arith}
use Rattle.text_encoding.specs.Numbers.{lists_length}
use Rattle.text_encoding.proofs.Sums.{sum_none, sum_turn, sum_holds, sum_grows}
use Rattle.text_admission.specs.Extents.{node_found}
use Rattle.text_admission.proofs.Leasts.{yet_start, yet_turn, yet_end}
use Rattle.text_admission.proofs.extents.nodes_found.Goals as goal

pub loop-i-init : goal.loop-i-init
loop-i-init c = ((let z : 0 ≤ c.args.n = omega arith in z), sum_none (lists_length c.args.nodes.now), yet_start)

pub node_found-requires : goal.node_found-requires
node_found-requires c = (c.requires.0, c.requires.1, c.requires.2, c.requires.3, omega arith, c.loop-i.invariant.1, omega (arith, sum_grows (c.loop-i.i + 1) c.args.n (lists_length c.args.nodes.now) (let z : c.loop-i.i + 1 ≤ c.args.n = omega arith in z)))

pub condition_length-requires : goal.condition_length-requires
condition_length-requires c = c.requires.0

pub own_length-requires : goal.own_length-requires
own_length-requires c = c.requires.0

pub overflow_add-q : goal.overflow_add-q
overflow_add-q c = omega (arith, sum_holds c.loop-i.i c.args.n (lists_length c.args.nodes.now) c.loop-i-test.true)

pub overflow_add-q-in-loop-i : goal.overflow_add-q-in-loop-i
overflow_add-q-in-loop-i c = omega (arith, sum_holds c.loop-i.i c.args.n (lists_length c.args.nodes.now) c.loop-i-test.true)

pub loop-i-preserved : goal.loop-i-preserved
loop-i-preserved c = (omega arith, sum_turn c.loop-i.i (c.condition_length.result + c.own_length.result) c.loop-i.q (lists_length c.args.nodes.now) c.loop-i.invariant.1 (ap₂ ◌+◌ c.condition_length.ensures c.own_length.ensures), yet_turn c.loop-i.invariant.2 c.loop-i-test.true c.node_found.ensures c.lesser-least.ensures)

pub returns : goal.returns
returns c = yet_end c.loop-i.invariant.2 c.loop-i-test.false
