use native.Mathlib.Omega.{arith}
use Prim.Native.Nat.{◌+◌, ◌-◌}
use mathlib.Core.Path.{◌≡◌, ap}
use Rattle.report_chain_steps.specs.Told.{told}
use Rattle.report_chain_steps.proofs.Tails.{tail_is}
use Rattle.report_chain_checks.proofs.chains.all.Goals as goal

pub returns-then-count-eq0 : goal.returns-then-count-eq0
returns-then-count-eq0 c = λ h. absurd (omega (arith, h, c.failed.ensures))

pub returns-then-count-gt1024 : goal.returns-then-count-gt1024
returns-then-count-gt1024 c = λ h. absurd (omega (arith, h, c.failed-then-count-gt1024.ensures))

pub at_last-last-requires : goal.at_last-last-requires
at_last-last-requires c = (omega (arith, c.if-count-gt1024.false, c.if-count-eq0.false), c.requires.0, c.requires.1, c.requires.2, c.requires.3)

pub replayed-requires : goal.replayed-requires
replayed-requires c = (omega (arith, c.if-count-gt1024.false), c.requires.0, c.requires.2)

pub returns-then-last-lt1024 : goal.returns-then-last-lt1024
returns-then-last-lt1024 c =
    let a = c.args in
    let e : a.count - 1 + 1 ≡ a.count = omega (arith, c.if-count-eq0.false) in
    λ h. tail_is a.table.now _ _ _ _ (ap (told a.steps.now 0) e) (c.replayed.ensures h 1 (c.at_last-last.ensures c.if-last-lt1024.true))

pub returns : goal.returns
returns c = λ h. absurd (omega (arith, h, c.failed-2.ensures))
