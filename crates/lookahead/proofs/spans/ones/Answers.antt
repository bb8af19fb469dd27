use Rattle.lookahead.proofs.BitLaws.{shifted_one}
use Prim.Native.Nat.{ℕ, ◌-◌, ◌*◌, ◌%◌, ◌^◌}
use mathlib.Core.Path.{◌≡◌, ap}
use lib.Pow.{pow_pos}
use native.Mathlib.Omega.{arith}
use Rattle.lookahead.proofs.spans.ones.Goals as goal

-- src/spans.rt:16:16
pub overflow_sub-result : goal.overflow_sub-result
overflow_sub-result c =
    let e : 1 * 2 ^ c.args.m % 2 ^ 64 ≡ 2 ^ c.args.m = shifted_one c.args.m 64 c.if-m-lt64.true in
    rw e (pow_pos c.args.m)

-- src/spans.rt:16:9
pub returns-then-m-lt64 : goal.returns-then-m-lt64
returns-then-m-lt64 c =
    let e : 1 * 2 ^ c.args.m % 2 ^ 64 ≡ 2 ^ c.args.m = shifted_one c.args.m 64 c.if-m-lt64.true in
    rw e

-- src/spans.rt:11:1
pub returns : goal.returns
returns c = ap (λ (y : ℕ). 2 ^ y - 1) (let e : 64 ≡ c.args.m = omega arith in e)
