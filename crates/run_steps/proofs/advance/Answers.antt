use Prim.Native.Nat.{ℕ, ◌+◌, ◌-◌, ◌<◌}
use native.Mathlib.Omega.{arith}
use mathlib.Core.Path.{◌≡◌, refl, sym, ap, subst, ◌∙◌}
use Rattle.run_steps.specs.Steps.{Whole, whole, steps_of, step_of, Fits}
use Rattle.run_steps.proofs.Running.{step_fits, steps_stay, steps_next, steps_none}
use Rattle.run_steps.proofs.advance.Goals as goal

pub loop-i-init : goal.loop-i-init
loop-i-init c =
    let all : c.args.grant - 0 ≡ c.args.grant = omega arith in
    (ap (λ (n : ℕ). steps_of c.args.table.now c.args.frame.now n (whole c.args.constructs.now c.args.passes.now c.args.values.now c.args.reading.now c.args.head)) all, c.requires.2, refl)

pub shape_of-reading-then-run-ne0 : goal.shape_of-reading-then-run-ne0
shape_of-reading-then-run-ne0 c = c.loop-i.invariant.2

pub returns-then-run-ne0 : goal.returns-then-run-ne0
returns-then-run-ne0 c = sym (steps_stay c.args.table.now c.args.frame.now (c.args.grant - c.loop-i._i) c.loop-i.constructs c.loop-i.passes c.loop-i.values c.loop-i.reading c.loop-i.run (λ e. omega (arith, e, c.if-run-ne0.true))) ∙ c.loop-i.invariant.0

pub step-run-requires : goal.step-run-requires
step-run-requires c = (c.requires.0, c.requires.1, c.loop-i.invariant.1.0, c.loop-i.invariant.1.1, c.loop-i.invariant.1.2, c.loop-i.invariant.1.3, c.loop-i.invariant.1.4)

pub loop-i-preserved : goal.loop-i-preserved
loop-i-preserved c =
    let now : Whole = whole c.loop-i.constructs c.loop-i.passes c.loop-i.values c.loop-i.reading c.loop-i.run in
    let some : 0 < c.args.grant - c.loop-i._i = omega (arith, c.loop-i-test.true) in
    let less : c.args.grant - (c.loop-i._i + 1) ≡ c.args.grant - c.loop-i._i - 1 = omega arith in (
      ap (steps_of c.args.table.now c.args.frame.now (c.args.grant - (c.loop-i._i + 1))) c.step-run.ensures
          ∙ (ap (λ (n : ℕ). steps_of c.args.table.now c.args.frame.now n (step_of c.args.table.now c.args.frame.now now)) less
          ∙ (sym (steps_next c.args.table.now c.args.frame.now (c.args.grant - c.loop-i._i) now some) ∙ c.loop-i.invariant.0)),
      subst (Fits c.args.frame.now) (sym c.step-run.ensures) (step_fits c.args.table.now c.args.frame.now now c.loop-i.invariant.1),
      c.step-run.auto.reading ∙ c.loop-i.invariant.2,
    )

pub shape_of-reading : goal.shape_of-reading
shape_of-reading c = c.loop-i.invariant.2

pub returns : goal.returns
returns c = sym (steps_none c.args.table.now c.args.frame.now (c.args.grant - c.loop-i._i) (whole c.loop-i.constructs c.loop-i.passes c.loop-i.values c.loop-i.reading c.loop-i.run) (omega (arith, c.loop-i-test.false))) ∙ c.loop-i.invariant.0
