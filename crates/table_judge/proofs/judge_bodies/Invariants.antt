use Prim.Native.Nat.{ℕ, ◌≤◌, ◌<◌}
use Rattle.basis.specs.Limits.{max_constructs}
use Rattle.theory.specs.Lookahead.{EmptyBody}
use Rattle.table_layout.specs.Held.{held}
use Rattle.table_judge.proofs.judge_bodies.Given as goal

abbrev pub invariant-loop-i : goal.invariant-loop-i
invariant-loop-i l = ((j : ℕ) → j < l.i → EmptyBody (held l.table) j → ⊥) × (l.i ≤ l.count) × (l.count ≤ max_constructs)
