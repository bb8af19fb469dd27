use Prim.Native.Nat.{◌≤◌}
use lib.ListN.{length}
use mathlib.Core.Path.{◌≡◌, ◌∙◌}
use Rattle.table_first_follow.specs.Sets.{sets_held, family_words}
use Rattle.table_first_follow.specs.Rounds.{FirstStep, FirstClosed, From}
use Rattle.table_first_follow.proofs.first.round.Given as goal

abbrev pub invariant-loop-i : goal.invariant-loop-i
invariant-loop-i l = FirstStep l.table (From (FirstClosed l.table) l.i) l.initial.family l.family l.grew × (l.i ≤ sets_held) × (length l.family ≡ family_words)

abbrev pub decreases-loop-i : goal.decreases-loop-i
decreases-loop-i l = l.i
