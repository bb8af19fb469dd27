use native.Mathlib.Omega.{arith}
use Prim.Native.Nat.{ℕ, ◌*◌, ◌%◌, ◌^◌, ◌≤◌}
use mathlib.Core.Path.{◌≡◌, ap, ◌∙◌}
use lib.Pow.{pow_mono}
use Rattle.lookahead.proofs.BitLaws.{shifted_one}
use Rattle.report_chain_steps.proofs.Widths.{width_at_most}
use Rattle.report_chain_steps.proofs.fields.power.Goals as goal

pub overflow_shl-result : goal.overflow_shl-result
overflow_shl-result c = omega (arith, c.bits.ensures, width_at_most c.args.n)

pub returns : goal.returns
returns c =
    let w = c.bits.result in
    let h : w ≤ 8 = omega (arith, c.bits.ensures, width_at_most c.args.n) in
    let p : 2 ^ w ≤ 2 ^ 8 = pow_mono {i = w} {j = 8} h in
    let e : 1 * 2 ^ w % 2 ^ 64 ≡ 2 ^ w = shifted_one w 64 (omega arith) in
    (e ∙ ap (λ (k : ℕ). 2 ^ k) c.bits.ensures, omega arith)
