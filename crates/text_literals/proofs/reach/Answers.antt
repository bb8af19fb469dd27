use Prim.Native.Nat.{ℕ, ◌+◌}
use mathlib.Core.Path.{◌≡◌, refl, sym, ap, ◌∙◌}
use native.Mathlib.Omega.{arith}
use lib.ListN.{length, get_or}
use Rattle.text_literals.specs.Literals.{stops, reached}
use Rattle.text_literals.specs.declared.Part.{Part}
use Rattle.text_literals.proofs.Reaches.{reach_turn, reach_stop, reach_out}
use Rattle.text_literals.proofs.reach.Goals as goal

pub loop-i-init : goal.loop-i-init
loop-i-init c = (omega arith, refl)

pub returns-then-stops : goal.returns-then-stops
returns-then-stops c = ap (λ (p : Part). reached p c.loop-i.count (c.loop-i.i + 1)) c.after-next.ensures ∙ sym (reach_stop c.args.text.now (get_or c.args.text.now c.args.at 0) c.loop-i.part c.loop-i.count c.loop-i.i c.loop-i-test.true (ap stops (sym c.after-next.ensures) ∙ sym c.stops.ensures ∙ c.if-stops.true)) ∙ c.loop-i.invariant.1

pub loop-i-preserved : goal.loop-i-preserved
loop-i-preserved c = (omega (arith, c.counted-count.ensures.1, c.loop-i.invariant.0), rw (c.counted-count.ensures.0, c.after-next.ensures) (sym (reach_turn c.args.text.now (get_or c.args.text.now c.args.at 0) c.loop-i.part c.loop-i.count c.loop-i.i c.loop-i-test.true (ap stops (sym c.after-next.ensures) ∙ sym c.stops.ensures ∙ c.if-stops.false)) ∙ c.loop-i.invariant.1))

pub returns : goal.returns
returns c =
    let over : c.loop-i.i ≡ length c.args.text.now = omega (arith, c.loop-i-test.false, c.loop-i.auto.i-end (omega (arith, c.requires))) in
    ap (λ (k : ℕ). reached c.loop-i.part c.loop-i.count k) (sym over) ∙ sym (reach_out c.args.text.now (get_or c.args.text.now c.args.at 0) c.loop-i.part c.loop-i.count c.loop-i.i c.loop-i-test.false) ∙ c.loop-i.invariant.1
