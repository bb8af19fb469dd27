use Prim.Native.Nat.{ℕ, ◌+◌, ◌*◌, ◌/◌, ◌%◌, ◌^◌, ◌≤◌, ◌<◌}
use native.Mathlib.Omega.{arith}
use mathlib.Core.Path.{◌≡◌, sym, ◌∙◌, ap, ap₂, subst}
use lib.ListN.{length, take, drop}
use lib.Pow.{pow_pos}
use Rattle.basis.specs.Bits.{value, frame_bits}
use Rattle.basis.proofs.Frames.{bits_in_bytes, value_take_less}
use Rattle.run_frame.proofs.few_bits.Goals as goal

pub nonzero_rem-result : goal.nonzero_rem-result
nonzero_rem-result c = subst (λ (n : ℕ). 0 < n) (sym c.power.ensures) (pow_pos _)

pub nonzero_div-result : goal.nonzero_div-result
nonzero_div-result c = subst (λ (n : ℕ). 0 < n) (sym c.power-2.ensures) (pow_pos _)

pub returns : goal.returns
returns c =
    let fs = c.args.frame.now in
    let p = c.args.p in
    let w = c.args.w in
    let q = p / 8 in
    let r = p % 8 in
    let n = (r + w + 7) / 8 in
    let place : 8 * q + r ≡ p = omega arith in
    let l : q + n ≤ length fs = omega arith in
    let m : r + w ≤ 8 * n = omega arith in
    let e : c.bytes-y.result % c.power.result / c.power-2.result ≡ value (take w (drop p (frame_bits fs))) =
    ap₂ (λ (x y : ℕ). x / y) (ap₂ (λ (x y : ℕ). x % y) c.bytes-y.ensures.0 c.power.ensures) c.power-2.ensures
    ∙ (sym (bits_in_bytes fs q r n w l m) ∙ ap (λ (x : ℕ). value (take w (drop x (frame_bits fs)))) place) in
    (e, subst (λ (x : ℕ). x < 2 ^ w) (sym e) (value_take_less w (drop p (frame_bits fs))))
