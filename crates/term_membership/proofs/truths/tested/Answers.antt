use Prim.Native.Nat.{ℕ, ◌-◌}
use mathlib.Core.Path.{◌≡◌, subst}
use native.Mathlib.Omega.{arith}
use Rattle.term_membership.specs.Truths.{Tested}
use Rattle.term_membership.proofs.Rounds.{testing_none, testing_room, testing_more}
use Rattle.term_membership.proofs.truths.tested.Goals as goal

pub loop-j-init : goal.loop-j-init
loop-j-init c = testing_none c.args.effect c.args.values.now

pub bounds-values-j : goal.bounds-values-j
bounds-values-j c = omega (arith, c.loop-j.invariant.most, c.loop-j-test.true)

pub doubled-out-requires : goal.doubled-out-requires
doubled-out-requires c = testing_room c.args.effect c.args.values.now c.loop-j.j c.loop-j.out c.loop-j-test.true c.loop-j.invariant

pub loop-j-preserved : goal.loop-j-preserved
loop-j-preserved c = testing_more c.args.effect c.args.values.now c.loop-j.j c.loop-j.out c.doubled-out.result c.passes.result c.loop-j-test.true c.loop-j.invariant c.passes.ensures c.doubled-out.ensures

pub returns : goal.returns
returns c = subst (λ (n : ℕ). Tested c.args.effect c.args.values.now n (64 - n) c.loop-j.out) (let z : c.loop-j.j ≡ 0 = omega (arith, c.loop-j-test.false) in z) c.loop-j.invariant.bits
