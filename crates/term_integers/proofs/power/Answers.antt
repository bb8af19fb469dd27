use Prim.Native.Nat.{ℕ, ◌%◌, ◌^◌, ◌<◌}
use mathlib.Core.Path.{ap, ◌∙◌}
use native.Mathlib.Omega.{arith}
use native.Mathlib.Nat.{one-mul, mod-eq_of_lt}
use lib.Pow.{pow-lt}
use Rattle.term_integers.proofs.power.Goals as goal

pub returns : goal.returns
returns c =
    let h : 2 ^ c.args.exponent < 2 ^ 64 = pow-lt {i = c.args.exponent} {j = 64} (omega (arith, c.requires)) in
    ap (λ (x : ℕ). x % 2 ^ 64) (one-mul (2 ^ c.args.exponent)) ∙ mod-eq_of_lt h
