use Prim.Native.Nat.{ℕ, ◌<◌}
use mathlib.Core.Path.{sym, subst}
use Rattle.run_actions.proofs.Literals.{ahead_small}
use Rattle.run_actions.proofs.ahead.Goals as goal

-- src/lib.rt:228:1
pub returns : goal.returns
returns c = (c.ahead.ensures, subst (λ (n : ℕ). n < 512) (sym c.ahead.ensures) (ahead_small c.args.frame.now c.args.p))
