use mathlib.Core.Path.{◌∙◌}
use Rattle.table_first_follow.specs.Rounds.{follow_low, follow_of, FollowClosed, From}
use Rattle.table_first_follow.proofs.RoundLaws.{Settling, left_to_do}
use Rattle.table_first_follow.proofs.follow.follow.Given as goal

abbrev pub invariant-loop-more : goal.invariant-loop-more
invariant-loop-more l = Settling (follow_low l.table) (follow_of l.table) (From (FollowClosed l.table) 0) l.family l.more

abbrev pub decreases-loop-more : goal.decreases-loop-more
decreases-loop-more l = left_to_do l.family l.more
