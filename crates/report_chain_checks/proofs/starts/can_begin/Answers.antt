use native.Mathlib.Omega.{arith}
use Rattle.report_chain_steps.proofs.Readiness.{of_set, begins_so}
use Rattle.report_chain_checks.proofs.starts.can_begin.Goals as goal

pub returns-then-is_field : goal.returns-then-is_field
returns-then-is_field c =
    let a = c.args in
    λ e. let q = c.some_begins.ensures e in (
      c.if-i-lt256.true,
      c.if-v-gt1.true,
      c.if-v-lt512.true,
      begins_so a.table.now a.i a.v (omega (arith, c.if-v-gt1.true)) c.if-v-lt512.true q.0
          (of_set a.table.now a.first.now c.requires.1 a.i c.if-i-lt256.true (c.is_field.ensures c.if-is_field.true) q.0 ((c.set_of.ensures.strings q.0).0 q.1)) q.2,
    )
