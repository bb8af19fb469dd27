use Prim.Native.Nat.{◌^◌, ◌<◌}
use lib.Signed.{mag}
use Rattle.run_saved.proofs.Patterns.{below, read_back}
use mathlib.Core.Path.{sym, subst}
use lib.IntN.{ℤ}
use mir.Syntax.{w64}
use mir.Val.{SFits}
use Rattle.run_saved.proofs.negative.Goals as goal

-- src/lib.rt:77:5
pub overflow_sub-result : goal.overflow_sub-result
overflow_sub-result c = subst (λ (z : ℤ). SFits w64 z) (sym (below c.args.n c.requires)) (record { sfits = c.requires })

-- src/lib.rt:73:1
pub returns : goal.returns
returns c = read_back _ _ (subst (λ (z : ℤ). mag z < 2 ^ 63) (sym (below c.args.n c.requires)) c.requires) (below c.args.n c.requires)
