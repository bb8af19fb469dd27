use Prim.Native.Nat.{◌-◌, ◌≤◌}
use mathlib.Core.Path.{◌≡◌, ◌∙◌}
use Rattle.table_first_follow.specs.Sets.{sets_held}
use Rattle.table_layout.specs.Held.{opening}
use Rattle.table_first_follow.specs.Rounds.{Between, FollowStep, FollowClosed, From, follow_low, follow_of}
use Rattle.table_first_follow.proofs.follow.push_all.Given as goal

abbrev pub invariant-loop-i : goal.invariant-loop-i
invariant-loop-i l = FollowStep l.table (From (λ n words. FollowClosed l.table (opening - n) words) l.i) l.initial.family l.family l.grew × (l.i ≤ sets_held) × Between (follow_low l.table) (follow_of l.table) l.family

abbrev pub decreases-loop-i : goal.decreases-loop-i
decreases-loop-i l = l.i
