use mathlib.Core.Path.{◌≡◌}
use native.Mathlib.Omega.{arith}
use Rattle.table_first_follow.proofs.order.place_ready.Goals as goal

pub loop-r-init : goal.loop-r-init
loop-r-init c = (omega arith, omega (arith, c.at_most-r.ensures))

pub loop-r-preserved : goal.loop-r-preserved
loop-r-preserved c = (omega arith, omega arith)
