use Prim.Native.Nat.{ℕ, ◌+◌, ◌*◌, ◌-◌, ◌^◌, ◌≤◌}
use native.Mathlib.Omega.{arith}
use mathlib.Core.Path.{◌∙◌, ap, ap₂}
use lib.ListN.{length}
use lib.Pow.{pow_mono}
use Rattle.basis.proofs.Frames.{ahead_short, ahead_long}
use Rattle.run_frame.proofs.ahead.Goals as goal

pub overflow_add-result : goal.overflow_add-result
overflow_add-result c =
    record {
      fits =
          let e = c.power.ensures in
          let b = c.bits_by_parts.ensures.1 in
          let z : 2 ^ (8 * length c.args.frame.now - c.args.p) ≤ 2 ^ 8 = pow_mono {j = 8} (omega arith) in omega arith;
    }

pub returns-then-left-lt8 : goal.returns-then-left-lt8
returns-then-left-lt8 c =
    let fs = c.args.frame.now in
    let p = c.args.p in
    ap₂ (λ (x y : ℕ). x + y) c.power.ensures c.bits_by_parts.ensures.0 ∙ ahead_short fs p (8 * length fs - p) (omega arith) (omega arith)

pub returns : goal.returns
returns c = ap (λ (x : ℕ). 256 + x) c.octet.ensures.0 ∙ ahead_long c.args.frame.now c.args.p (omega arith)
