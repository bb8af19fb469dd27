use mathlib.Core.Path.{◌≡◌}
use Rattle.table_first_follow.proofs.order.fill.Goals as goal

pub loop-left-smaller : goal.loop-left-smaller
loop-left-smaller c = c.turns_left-left.ensures
