use native.Mathlib.Omega.{arith}
use Prim.Native.Nat.{ℕ, ◌+◌}
use mathlib.Core.Path.{refl, ap}
use Rattle.report_chain_steps.proofs.Widths.{width_small}
use Rattle.report_chain_steps.proofs.Readiness.{of_bits}
use Rattle.report_chain_steps.proofs.Tails.{tail_field}
use Rattle.report_chain_steps.proofs.fields.field.Goals as goal

pub overflow_add-result : goal.overflow_add-result
overflow_add-result c = omega (arith, c.if-left-le8.true, c.bits.ensures, width_small c.args.v (c.has_bits.ensures c.if-has_bits.true).1)

pub appended-requires : goal.appended-requires
appended-requires c = (c.if-v-gt0.true, (c.has_bits.ensures c.if-has_bits.true).1, c.if-seen-lt512.true)

pub returns-then-v-gt0 : goal.returns-then-v-gt0
returns-then-v-gt0 c =
    let a = c.args in
    let q = c.has_bits.ensures c.if-has_bits.true in
    λ h shown t.
    tail_field a.table.now a.items.now a.at shown t _ _ a.i a.v c.if-v-gt0.true q.1 c.if-left-le8.true refl (ap (λ (k : ℕ). a.at.left + k) c.bits.ensures) c.appended.ensures
    ((c.put.ensures h).2 a.table.now) (of_bits a.table.now a.first.now c.requires.1 a.i a.v c.if-i-lt256.true q.0 q.2)

pub returns : goal.returns
returns c = λ h. absurd (omega (arith, h, c.failed.ensures))
