use native.Mathlib.Omega.{arith}
use Rattle.report_chain_steps.specs.Replayed.{stack}
use Rattle.report_chain_steps.proofs.Stacks.{passes_few, passes_many}
use Rattle.report_chain_steps.proofs.counts.below_these.Goals as goal

pub overflow_add-i : goal.overflow_add-i
overflow_add-i c = omega (arith, c.requires)

pub returns-then-d-lt-NO_DEPTH : goal.returns-then-d-lt-NO_DEPTH
returns-then-d-lt-NO_DEPTH c =
    let a = c.args in
    λ h ws. passes_many ws a.i a.n (stack ws a.items.now a.depth) (stack ws a.items.now c.below_copies-d.result) (stack ws a.items.now c.below_past_eight.result) c.if-n-eq8.true (c.below_copies-d.ensures c.if-d-lt-NO_DEPTH.true ws) (c.below_past_eight.ensures h ws)

pub returns-else-d-lt-NO_DEPTH : goal.returns-else-d-lt-NO_DEPTH
returns-else-d-lt-NO_DEPTH c = λ h. absurd (omega (arith, h, c.if-d-lt-NO_DEPTH.false))

pub returns-else-n-eq8 : goal.returns-else-n-eq8
returns-else-n-eq8 c =
    let a = c.args in
    λ h ws. passes_few ws a.i a.n (stack ws a.items.now a.depth) (stack ws a.items.now c.below_copies-d.result) c.if-n-eq8.false (c.below_copies-d.ensures h ws)
