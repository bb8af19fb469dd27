use Prim.Native.Nat.{◌≤◌}
use mathlib.Core.Path.{◌≡◌, ap, ◌∙◌}
use native.Mathlib.Omega.{arith}
use Rattle.text_encoding.specs.Numbers.{binds_one, binders_before}
use Rattle.text_encoding.proofs.Sums.{sum_none, sum_turn}
use Rattle.text_encoding.proofs.numbers.binders_before.Goals as goal

pub loop-j-init : goal.loop-j-init
loop-j-init c = (sum_none (binds_one c.args.nodes.now), (let z : 0 ≤ 0 = omega arith in z), (let z : 0 ≤ c.args.i = omega arith in z))

pub binds_one-n-requires : goal.binds_one-n-requires
binds_one-n-requires c = c.requires

pub loop-j-preserved : goal.loop-j-preserved
loop-j-preserved c = (sum_turn c.loop-j.j c.binds_one-n.result c.loop-j.n (binds_one c.args.nodes.now) c.loop-j.invariant.0 c.binds_one-n.ensures.0, omega arith, omega arith)

pub returns : goal.returns
returns c = let e : c.loop-j.j ≡ c.args.i = omega arith in (c.loop-j.invariant.0 ∙ ap (binders_before c.args.nodes.now) e, omega arith)
