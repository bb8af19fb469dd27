use Prim.Native.Nat.{◌/◌, ◌%◌}
use mathlib.Core.Path.{ap₂}
use lib.Dec.{eqb}
use Rattle.run_actions.specs.Stored.{stored as storedOf}
use Prim.Native.Nat.{ℕ, ◌<◌}
use mathlib.Core.Path.{sym, subst}
use lib.Pow.{pow_pos}
use Rattle.run_actions.proofs.stored.Goals as goal

-- src/lib.rt:48:5
pub nonzero_div-result : goal.nonzero_div-result
nonzero_div-result c = subst (λ (n : ℕ). 0 < n) (sym c.power.ensures) (pow_pos _)

-- src/lib.rt:42:1
pub returns : goal.returns
unfolding storedOf
returns c = ap₂ (λ (x y : ℕ). eqb (x / y % 2) 1) c.word-w.ensures.0 c.power.ensures
