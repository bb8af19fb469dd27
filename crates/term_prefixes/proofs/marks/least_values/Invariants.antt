use Rattle.term_membership.specs.Members.{holds_from}
use Rattle.term_words.specs.Words.{terms}
use Prim.Native.Nat.{◌*◌, ◌-◌, ◌≤◌}
use mathlib.Core.Path.{◌≡◌}
use lib.ListN.{length}
use Rattle.term_prefixes.specs.Marks.{Sought, Least}
use Rattle.term_prefixes.proofs.marks.least_values.Given as goal

abbrev pub invariant-loop-i : goal.invariant-loop-i
invariant-loop-i l = Sought (holds_from l.offset l.variables l.start (terms l.words l.start l.end)) l.width (Least l.width (64 * l.i)) l.initial.marks l.marks × (length l.values ≡ 64) × (l.i ≤ 4)
