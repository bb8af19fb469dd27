use Prim.Native.Nat.{ℕ, ◌+◌, ◌≤◌}
use native.Mathlib.Omega.{arith}
use mathlib.Core.Path.{sym, ◌∙◌, ap}
use Rattle.run_actions.specs.Acts.{branch_act}
use Rattle.run_actions.proofs.Walks.{positive}
use Rattle.run_actions.proofs.Parts.{branch_end, branch_hit, branch_missing, branch_next}
use Rattle.run_actions.proofs.branch.Goals as goal

-- src/lib.rt:82:12
pub stored-requires : goal.stored-requires
stored-requires c = (omega arith, omega arith)

-- src/lib.rt:83:13
pub returns-then-stored : goal.returns-then-stored
returns-then-stored c = sym (branch_hit c.args.table.now c.args.end c.args.n c.loop-j.j c.loop-j-test.true (sym c.stored.ensures ∙ c.if-stored.true)) ∙ c.loop-j.invariant

-- src/lib.rt:87:13
pub returns-then-step-eq0 : goal.returns-then-step-eq0
returns-then-step-eq0 c = sym (branch_missing c.args.table.now c.args.end c.args.n c.loop-j.j c.loop-j-test.true (sym c.stored.ensures ∙ c.if-stored.false) (sym c.size_at-step.ensures.0 ∙ c.if-step-eq0.true)) ∙ c.loop-j.invariant

-- src/lib.rt:81:5
pub loop-j-smaller : goal.loop-j-smaller
loop-j-smaller c = (let z : 1 ≤ c.size_at-step.result = positive c.size_at-step.result c.if-step-eq0.false in omega arith)

-- src/lib.rt:81:5
pub loop-j-preserved : goal.loop-j-preserved
loop-j-preserved c =
    let e = c.size_at-step.ensures.0 in
    ap (λ (x : ℕ). branch_act c.args.table.now c.args.n (c.loop-j.j + x) c.args.end) e
    ∙ (sym
    (branch_next c.args.table.now c.args.end c.args.n c.loop-j.j c.loop-j-test.true (sym c.stored.ensures ∙ c.if-stored.false)
    (λ z. c.if-step-eq0.false (e ∙ z)))
    ∙ c.loop-j.invariant)

-- src/lib.rt:76:1
pub returns : goal.returns
returns c = sym (branch_end c.args.table.now c.args.end c.args.n c.loop-j.j c.loop-j-test.false) ∙ c.loop-j.invariant
