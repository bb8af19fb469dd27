use native.Mathlib.Omega.{arith}
use Prim.Native.Nat.{◌-◌, ◌<◌}
use mathlib.Core.Path.{◌≡◌, refl}
use Rattle.report_chain_steps.proofs.Tails.{tail_last}
use Rattle.report_chain_checks.proofs.starts.at_field.Goals as goal

pub returns-then-bottom-lt256 : goal.returns-then-bottom-lt256
returns-then-bottom-lt256 c = λ h. absurd (omega (arith, h, c.failed.ensures))

pub returns-then-depth-eq0 : goal.returns-then-depth-eq0
returns-then-depth-eq0 c = λ h. absurd (omega (arith, h, c.failed-then-depth-eq0.ensures))

pub goes_on-requires : goal.goes_on-requires
goes_on-requires c = (c.requires.0, c.requires.1)

pub can_begin-requires : goal.can_begin-requires
can_begin-requires c = (c.requires.0, c.requires.2)

pub returns-then-can_begin : goal.returns-then-can_begin
returns-then-can_begin c =
    let a = c.args in
    let b = c.number_at-bottom.result in
    let q = c.can_begin.ensures c.if-can_begin.true in
    let g = c.goes_on.ensures c.if-goes_on.true a.table.now c.requires.2 c.requires.3 in
    let d : 0 < b - 255 = omega (arith, c.if-bottom-lt256.false) in
    let e : b - 256 ≡ b - 255 - 1 = omega (arith, c.if-bottom-lt256.false) in
    λ h. tail_last a.table.now a.items.now _ _ (a.depth - 1) a.i (b - 256) a.v q.1 q.2 c.bits.ensures refl d e ((c.put.ensures h).2 a.table.now) g.0 g.1 q.3

pub returns : goal.returns
returns c = λ h. absurd (omega (arith, h, c.failed-2.ensures))
