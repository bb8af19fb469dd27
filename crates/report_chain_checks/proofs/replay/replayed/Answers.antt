use native.Mathlib.Omega.{arith}
use Prim.Native.Nat.{ℕ, ◌+◌, ◌-◌}
use mathlib.Core.Path.{◌≡◌, refl, ap, ◌∙◌}
use Rattle.report_chain_steps.specs.Told.{told}
use Rattle.report_chain_steps.proofs.Tails.{tail_is, told_back}
use Rattle.report_chain_checks.proofs.replay.replayed.Goals as goal

pub loop-k-init : goal.loop-k-init
loop-k-init c =
    let a = c.args in (
      omega arith,
      refl,
      λ h n t. let e : n ≡ a.count - a.count + n = omega arith in tail_is a.table.now a.items.now a.start (told a.steps.now a.count n) _ (ap (told a.steps.now a.count) e) t,
    )

pub shape_of-items-then-at-ge-NO_DEPTH : goal.shape_of-items-then-at-ge-NO_DEPTH
shape_of-items-then-at-ge-NO_DEPTH c = c.loop-k.invariant.1

pub returns-then-at-ge-NO_DEPTH : goal.returns-then-at-ge-NO_DEPTH
returns-then-at-ge-NO_DEPTH c = λ h. absurd (omega (arith, h, c.if-at-ge-NO_DEPTH.true))

pub entry_at-at-requires : goal.entry_at-at-requires
entry_at-at-requires c = (omega (arith, c.requires.0, c.loop-k.invariant.0, c.loop-k-test.true), c.requires.1, c.requires.2)

pub loop-k-preserved : goal.loop-k-preserved
loop-k-preserved c =
    let a = c.args in
    let l = c.loop-k in (
      omega (arith, l.invariant.0),
      omega (arith, l.invariant.1),
      λ h n t.
          tail_is a.table.now _ _ _ _
          (told_back a.steps.now (l.k - 1) l.k (a.count - l.k + n) (a.count - (l.k - 1) + n) (omega (arith, c.loop-k-test.true)) (omega (arith, c.loop-k-test.true, l.invariant.0)))
          (c.entry_at-at.ensures h (told a.steps.now l.k (a.count - l.k + n)) (l.invariant.2 c.if-at-ge-NO_DEPTH.false n t)),
    )

pub shape_of-items : goal.shape_of-items
shape_of-items c = c.loop-k.invariant.1

pub returns : goal.returns
returns c =
    let a = c.args in
    let l = c.loop-k in
    let z : l.k ≡ 0 = omega (arith, c.loop-k-test.false) in
    λ h n t.
    let e : a.count - l.k + n ≡ a.count + n = omega (arith, z) in
    tail_is a.table.now _ _ _ _ (ap (λ (k : ℕ). told a.steps.now k (a.count - l.k + n)) z ∙ ap (told a.steps.now 0) e) (l.invariant.2 h n t)
