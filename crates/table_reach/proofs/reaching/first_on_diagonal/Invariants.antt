use lib.ListN.{get_or}
use Prim.Native.Nat.{ℕ, ◌≤◌, ◌<◌}
use mathlib.Core.Path.{◌≡◌}
use Rattle.basis.specs.Limits.{max_rules}
use Rattle.lookahead.specs.Sets.{bit}
use Rattle.table_reach.proofs.reaching.first_on_diagonal.Given as goal

abbrev pub invariant-loop-r : goal.invariant-loop-r
invariant-loop-r l = ((q : ℕ) → q < l.r → bit (get_or l.rows q 0) q ≡ 0) × (l.r ≤ max_rules)
