use Prim.Native.Nat.{ℕ, ◌≤◌, ◌<◌}
use Rattle.basis.specs.Limits.{max_constructs}
use Rattle.table_conflicts.specs.Conflicts.{Conflicting}
use Rattle.table_judge.proofs.judge_conflicts.Given as goal

abbrev pub invariant-loop-i : goal.invariant-loop-i
invariant-loop-i l = ((j : ℕ) → j < l.i → Conflicting l.table j → ⊥) × (l.i ≤ l.count) × (l.count ≤ max_constructs)
