use Prim.Native.Nat.{ℕ, ◌<◌, ◌/◌, ◌%◌}
use native.Mathlib.Omega.{arith}
use mathlib.Core.Path.{sym, subst, ap₂}
use lib.Pow.{pow_pos}
use Rattle.run_actions.proofs.literal_byte.Goals as goal

-- src/lib.rt:242:5
pub nonzero_div-result : goal.nonzero_div-result
nonzero_div-result c = subst (λ (n : ℕ). 0 < n) (sym c.power.ensures) (pow_pos _)

-- src/lib.rt:236:1
pub returns : goal.returns
returns c = (ap₂ (λ (x y : ℕ). x / y % 256) c.word-w.ensures.0 c.power.ensures, omega arith)
