use mathlib.Core.Path.{◌≡◌, ap, ◌∙◌}
use Prim.Native.Nat.{◌≤◌, ◌-◌}
use native.Mathlib.Omega.{arith}
use Rattle.basis.specs.Limits.{max_constructs}
use Rattle.table_layout.specs.Held.{size_of}
use Rattle.table_wellformed.specs.Checks.{size_at}
use Rattle.table_layout.proofs.Bounds.{size_fits}
use Rattle.table_wellformed.proofs.checks.size_at.Goals as goal

pub returns : goal.returns
returns c =
    let e : c.size_of.result ≡ size_at c.args.table.now c.args.i = c.size_of.ensures ∙ ap size_of c.construct_at.ensures
    in (e, let h : size_at c.args.table.now c.args.i ≤ max_constructs - c.args.i = size_fits c.args.table.now c.args.i in omega arith)
