use mathlib.Core.Path.{◌∙◌}
use Rattle.table_first_follow.specs.Rounds.{first_low, first_of, FirstClosed, From}
use Rattle.table_first_follow.proofs.RoundLaws.{Settling, left_to_do}
use Rattle.table_first_follow.proofs.first.first_in_order.Given as goal

abbrev pub invariant-loop-more : goal.invariant-loop-more
invariant-loop-more l = Settling (first_low l.table) (first_of l.table) (From (FirstClosed l.table) 0) l.family l.more

abbrev pub decreases-loop-more : goal.decreases-loop-more
decreases-loop-more l = left_to_do l.family l.more
