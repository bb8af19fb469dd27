use Prim.Native.Nat.{ℕ, ◌≤◌, ◌<◌}
use Rattle.basis.specs.Limits.{max_constructs}
use Rattle.table_judge.specs.Judged.{Valueless}
use Rattle.table_judge.proofs.judge_values.Given as goal

abbrev pub invariant-loop-i : goal.invariant-loop-i
invariant-loop-i l = ((j : ℕ) → j < l.i → Valueless l.table j → ⊥) × (l.i ≤ l.count) × (l.count ≤ max_constructs)
