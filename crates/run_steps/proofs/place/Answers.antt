use Prim.Native.Nat.{ℕ, ◌+◌, ◌-◌, ◌≤◌}
use native.Mathlib.Omega.{arith}
use mathlib.Core.Path.{refl, sym, ◌∙◌, ap}
use lib.ListN.{set}
use Rattle.run_actions.proofs.Walks.{positive}
use Rattle.run_steps.specs.Steps.{placed}
use Rattle.run_steps.proofs.Places.{placed_end, placed_full, placed_missing, placed_next}
use Rattle.run_steps.proofs.place.Goals as goal

-- src/lib.rt:125:5
pub loop-j-init : goal.loop-j-init
loop-j-init c = (refl, refl, omega arith)

-- src/lib.rt:127:13
pub returns-then-k-eq0 : goal.returns-then-k-eq0
returns-then-k-eq0 c = (sym (placed_full (λ (j : ℕ). j) c.args.table.now c.args.end c.loop-j.j c.loop-j.k c.loop-j.constructs c.loop-j-test.true c.if-k-eq0.true) ∙ c.loop-j.invariant.0, sym (placed_full (λ (j : ℕ). 0) c.args.table.now c.args.end c.loop-j.j c.loop-j.k c.loop-j.passes c.loop-j-test.true c.if-k-eq0.true) ∙ c.loop-j.invariant.1)

-- src/lib.rt:129:9
pub overflow_sub-k : goal.overflow_sub-k
overflow_sub-k c = positive c.loop-j.k c.if-k-eq0.false

-- src/lib.rt:134:13
pub returns-then-step-eq0 : goal.returns-then-step-eq0
returns-then-step-eq0 c = (sym (placed_missing (λ (j : ℕ). j) c.args.table.now c.args.end c.loop-j.j c.loop-j.k c.loop-j.constructs c.loop-j-test.true c.if-k-eq0.false (sym c.size_at-step.ensures.0 ∙ c.if-step-eq0.true)) ∙ c.loop-j.invariant.0, sym (placed_missing (λ (j : ℕ). 0) c.args.table.now c.args.end c.loop-j.j c.loop-j.k c.loop-j.passes c.loop-j-test.true c.if-k-eq0.false (sym c.size_at-step.ensures.0 ∙ c.if-step-eq0.true)) ∙ c.loop-j.invariant.1)

-- src/lib.rt:125:5
pub loop-j-smaller : goal.loop-j-smaller
loop-j-smaller c = (let z : 1 ≤ c.size_at-step.result = positive c.size_at-step.result c.if-step-eq0.false in omega arith)

-- src/lib.rt:125:5
pub loop-j-preserved : goal.loop-j-preserved
loop-j-preserved c =
    let e = c.size_at-step.ensures.0 in (
      ap (λ (x : ℕ). placed (λ (i : ℕ). i) c.args.table.now (c.loop-j.j + x) c.args.end (c.loop-j.k - 1) (set c.loop-j.constructs (c.loop-j.k - 1) c.loop-j.j)) e
          ∙ (sym (placed_next (λ (i : ℕ). i) c.args.table.now c.args.end c.loop-j.j c.loop-j.k c.loop-j.constructs c.loop-j-test.true c.if-k-eq0.false (λ z. c.if-step-eq0.false (e ∙ z))) ∙ c.loop-j.invariant.0),
      ap (λ (x : ℕ). placed (λ (i : ℕ). 0) c.args.table.now (c.loop-j.j + x) c.args.end (c.loop-j.k - 1) (set c.loop-j.passes (c.loop-j.k - 1) 0)) e
          ∙ (sym (placed_next (λ (i : ℕ). 0) c.args.table.now c.args.end c.loop-j.j c.loop-j.k c.loop-j.passes c.loop-j-test.true c.if-k-eq0.false (λ z. c.if-step-eq0.false (e ∙ z))) ∙ c.loop-j.invariant.1),
      omega arith,
    )

-- src/lib.rt:119:1
pub returns : goal.returns
returns c = (sym (placed_end (λ (j : ℕ). j) c.args.table.now c.args.end c.loop-j.j c.loop-j.k c.loop-j.constructs c.loop-j-test.false) ∙ c.loop-j.invariant.0, sym (placed_end (λ (j : ℕ). 0) c.args.table.now c.args.end c.loop-j.j c.loop-j.k c.loop-j.passes c.loop-j-test.false) ∙ c.loop-j.invariant.1)
