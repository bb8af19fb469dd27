use Prim.Native.Nat.{◌+◌, ◌≤◌}
use mathlib.Core.Path.{◌≡◌, ap, ap₂, ◌∙◌}
use native.Mathlib.Omega.{arith}
use Rattle.text_encoding.specs.Numbers.{lists_length, condition_start}
use Rattle.text_encoding.proofs.Sums.{sum_none, sum_turn, sum_holds}
use Rattle.text_encoding.proofs.areas.terms_before.Goals as goal

pub loop-i-init : goal.loop-i-init
loop-i-init c = (sum_none (lists_length c.args.nodes.now), (let z : 0 ≤ c.args.n = omega arith in z))

pub condition_length-requires : goal.condition_length-requires
condition_length-requires c = c.requires.0

pub own_length-requires : goal.own_length-requires
own_length-requires c = c.requires.0

pub overflow_add-q : goal.overflow_add-q
overflow_add-q c = omega (arith, sum_holds c.loop-i.i c.args.n (lists_length c.args.nodes.now) c.loop-i-test.true)

pub overflow_add-q-in-loop-i : goal.overflow_add-q-in-loop-i
overflow_add-q-in-loop-i c = omega (arith, sum_holds c.loop-i.i c.args.n (lists_length c.args.nodes.now) c.loop-i-test.true)

pub loop-i-preserved : goal.loop-i-preserved
loop-i-preserved c = (sum_turn c.loop-i.i (c.condition_length.result + c.own_length.result) c.loop-i.q (lists_length c.args.nodes.now) c.loop-i.invariant.0 (ap₂ ◌+◌ c.condition_length.ensures c.own_length.ensures), omega arith)

pub returns : goal.returns
returns c = let e : c.loop-i.i ≡ c.args.n = omega arith in c.loop-i.invariant.0 ∙ ap (condition_start c.args.nodes.now) e
