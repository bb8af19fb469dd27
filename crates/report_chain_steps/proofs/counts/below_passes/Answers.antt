use native.Mathlib.Omega.{arith}
use Rattle.report_chain_steps.specs.Replayed.{stack}
use Rattle.table_layout.specs.Constructs.{construct_at}
use Rattle.table_layout.specs.Held.{allowed, passes_static}
use Rattle.report_chain_steps.specs.Replayed.{counts_at}
use Rattle.report_chain_steps.proofs.Counting.{passes_fit}
use Rattle.report_chain_steps.proofs.counts.below_passes.Goals as goal

pub below_these-requires : goal.below_these-requires
below_these-requires c = c.requires.0

pub returns-then-fits : goal.returns-then-fits
returns-then-fits c =
    let a = c.args in
    let is = stack a.table.now a.items.now a.depth in
    let q = c.below_these in
    λ h. passes_fit (allowed c.static_counts.result) (passes_static a.table.now a.passes) (counts_at a.table.now (construct_at a.table.now a.i)) a.n _ is (stack a.table.now a.items.now q.result) (c.fits.ensures c.if-fits.true) c.static_counts.ensures c.requires.1 (q.ensures h a.table.now)

pub returns : goal.returns
returns c = λ h. absurd (omega (arith, h))
