use Prim.Native.Nat.{ℕ, ◌^◌, ◌<◌}
use mathlib.Core.Path.{◌≡◌, ap, sym}
use native.Mathlib.Omega.{arith}
use lib.Pow.{pow_pos}
use Rattle.term_prefixes.proofs.marks.last_of.Goals as goal

pub overflow_sub-result : goal.overflow_sub-result
overflow_sub-result c = let p : 0 < 2 ^ c.args.width = pow_pos c.args.width in omega (arith, c.power.ensures)

pub returns-then-width-lt64 : goal.returns-then-width-lt64
returns-then-width-lt64 c = let p : 0 < 2 ^ c.args.width = pow_pos c.args.width in omega (arith, c.power.ensures)

pub returns : goal.returns
returns c = let e : c.args.width ≡ 64 = omega arith in sym (ap (λ (w : ℕ). 2 ^ w) e)
