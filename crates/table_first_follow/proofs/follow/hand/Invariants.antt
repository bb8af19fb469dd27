use Prim.Native.Nat.{◌≤◌}
use lib.ListN.{length, take}
use mathlib.Core.Path.{◌≡◌, ◌∙◌}
use Rattle.basis.specs.Limits.{max_constructs}
use Rattle.table_first_follow.specs.Parts.{siblings}
use Rattle.table_first_follow.proofs.FollowLaws.{Handing}
use Rattle.table_first_follow.proofs.follow.hand.Given as goal

abbrev pub invariant-loop-k : goal.invariant-loop-k
invariant-loop-k l = Handing l.table l.joined l.initial.tail.words (siblings l.table l.start l.end) l.k l.tail.words l.initial.family l.family l.grew × (take l.initial.k l.places ≡ siblings l.table l.start l.end) × (l.k ≤ l.initial.k) × (l.initial.k ≤ max_constructs) × (length l.places ≡ max_constructs)

abbrev pub decreases-loop-k : goal.decreases-loop-k
decreases-loop-k l = l.k
