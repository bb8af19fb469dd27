use Prim.Native.Nat.{ℕ, ◌+◌, ◌≤◌}
use native.Mathlib.Omega.{arith}
use mathlib.Core.Path.{refl, sym, ◌∙◌, ap}
use Rattle.run_actions.proofs.Walks.{positive}
use Rattle.run_actions.proofs.Parts.{members_from, members_end, members_missing, members_next}
use Rattle.run_actions.proofs.members.Goals as goal

-- src/lib.rt:150:5
pub loop-j-init : goal.loop-j-init
loop-j-init c = (refl, omega arith)

-- src/lib.rt:153:13
pub returns-then-step-eq0 : goal.returns-then-step-eq0
returns-then-step-eq0 c = sym (members_missing c.args.table.now c.args.end c.args.start c.loop-j.j c.loop-j.count c.loop-j-test.true (sym c.size_at-step.ensures.0 ∙ c.if-step-eq0.true)) ∙ c.loop-j.invariant.0

-- src/lib.rt:150:5
pub loop-j-smaller : goal.loop-j-smaller
loop-j-smaller c = (let z : 1 ≤ c.size_at-step.result = positive c.size_at-step.result c.if-step-eq0.false in omega arith)

-- src/lib.rt:150:5
pub loop-j-preserved : goal.loop-j-preserved
loop-j-preserved c =
    let e = c.size_at-step.ensures.0 in
    let z : 1 ≤ c.size_at-step.result = positive c.size_at-step.result c.if-step-eq0.false in (
      ap (λ (x : ℕ). members_from c.args.table.now c.args.end c.args.start (c.loop-j.j + x) (c.loop-j.count + 1)) e
          ∙ (sym (members_next c.args.table.now c.args.end c.args.start c.loop-j.j c.loop-j.count c.loop-j-test.true (λ y. c.if-step-eq0.false (e ∙ y))) ∙ c.loop-j.invariant.0),
      omega arith,
    )

-- src/lib.rt:144:1
pub returns : goal.returns
returns c = sym (members_end c.args.table.now c.args.end c.args.start c.loop-j.j c.loop-j.count c.loop-j-test.false) ∙ c.loop-j.invariant.0
