use Prim.Native.Nat.{ℕ, ◌≤◌}
use mathlib.Core.Path.{sym, subst}
use Rattle.basis.specs.Limits.{max_constructs}
use Rattle.table_layout.proofs.Bounds.{size_small}
use Rattle.run_actions.proofs.size_at.Goals as goal

pub returns : goal.returns
returns c = (c.size_at.ensures, subst (λ (n : ℕ). n ≤ max_constructs) (sym c.size_at.ensures) (size_small c.args.table.now c.args.j))
