use Prim.Native.Nat.{ℕ, ◌+◌, ◌*◌, ◌-◌, ◌^◌, ◌≤◌, ◌<◌}
use native.Mathlib.Omega.{arith}
use mathlib.Core.Path.{◌≡◌, sym, ap, ap₂, subst, ◌∙◌}
use lib.ListN.{take, drop}
use lib.Pow.{pow_mono}
use Rattle.basis.specs.Bits.{value, frame_bits}
use Rattle.basis.proofs.Frames.{bits_in_two, value_take_less}
use Rattle.run_frame.proofs.bits_by_parts.Goals as goal

pub overflow_mul-result : goal.overflow_mul-result
overflow_mul-result c = let p : 2 ^ (c.args.w - 32) ≤ 2 ^ 32 = pow_mono {i = c.args.w - 32} {j = 32} (omega arith) in let h = c.few_bits-above.ensures.1 in record { fits = omega arith }

pub overflow_add-result : goal.overflow_add-result
overflow_add-result c = let p : 2 ^ (c.args.w - 32) ≤ 2 ^ 32 = pow_mono {i = c.args.w - 32} {j = 32} (omega arith) in let h = c.few_bits-above.ensures.1 in let k = c.few_bits-below.ensures.1 in record { fits = omega arith }

pub returns : goal.returns
returns c =
    let fs = c.args.frame.now in
    let p = c.args.p in
    let w = c.args.w in
    let s : w - 32 + 32 ≡ w = omega arith in
    let e : c.few_bits-above.result * 4294967296 + c.few_bits-below.result ≡ value (take w (drop p (frame_bits fs))) =
    ap₂ (λ (x y : ℕ). x * 4294967296 + y) c.few_bits-above.ensures.0 c.few_bits-below.ensures.0
    ∙ (sym (bits_in_two fs p (w - 32) 32 (omega arith)) ∙ ap (λ (n : ℕ). value (take n (drop p (frame_bits fs)))) s) in
    (e, subst (λ (x : ℕ). x < 2 ^ w) (sym e) (value_take_less w (drop p (frame_bits fs))))
