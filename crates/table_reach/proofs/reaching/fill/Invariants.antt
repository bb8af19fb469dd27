use lib.ListN.{length, get_or}
use Prim.Native.Nat.{ℕ, ◌≤◌, ◌<◌}
use mathlib.Core.Path.{◌≡◌}
use Rattle.basis.specs.Limits.{max_rules}
use Rattle.lookahead.specs.Sets.{bit}
use Rattle.table_reach.specs.Closure.{uses}
use Rattle.table_reach.proofs.reaching.fill.Given as goal

abbrev pub invariant-loop-r : goal.invariant-loop-r
invariant-loop-r l = (length l.rows ≡ max_rules) × ((i : ℕ) → i < l.r → (q : ℕ) → q < max_rules → bit (get_or l.rows i 0) q ≡ uses l.table i q) × (l.r ≤ max_rules)
