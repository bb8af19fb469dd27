use native.Mathlib.Omega.{arith}
use Prim.Native.Nat.{ℕ, ◌+◌}
use mathlib.Core.Path.{ap}
use Rattle.table_layout.proofs.Bounds.{size_fits}
use Rattle.report_chain_steps.proofs.parts.end_of.Goals as goal

pub returns : goal.returns
returns c = (ap (λ (k : ℕ). c.args.i + k) c.size_at.ensures.0, omega (arith, size_fits c.args.table.now c.args.i, c.size_at.ensures.0, c.requires))
