use Prim.Native.Nat.{ℕ, ◌+◌}
use mathlib.Core.Path.{ap}
use Rattle.run_steps.proofs.taken.Goals as goal

-- src/lib.rt:56:1
pub returns : goal.returns
returns c = ap (λ (v : ℕ). record { position = c.args.position; count = c.args.count; captures = c.args.captures; steps = c.args.head.steps + 1; verdict = v }) c.verdict-after.ensures
