use native.Mathlib.Omega.{arith}
use Prim.Native.Nat.{ℕ, ◌-◌}
use mathlib.Core.Path.{refl, ap}
use Rattle.report_chain_steps.proofs.Widths.{width_small}
use Rattle.report_chain_steps.proofs.Tails.{tail_end}
use Rattle.report_chain_checks.proofs.starts.at_end.Goals as goal

pub overflow_sub-result : goal.overflow_sub-result
overflow_sub-result c = omega (arith, c.bits.ensures, width_small c.args.window c.if-window-lt256.true)

pub returns-then-window-lt256 : goal.returns-then-window-lt256
returns-then-window-lt256 c = λ h items. tail_end c.args.table.now items _ c.body_of-body.result c.args.window c.if-window-lt256.true (c.body_of-body.ensures c.if-body-lt256.true) refl refl (ap (λ (k : ℕ). 8 - k) c.bits.ensures) refl

pub returns : goal.returns
returns c = λ h. absurd (omega (arith, h, c.failed.ensures))
