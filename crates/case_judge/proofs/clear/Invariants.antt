use Prim.Native.Nat.{◌≤◌, ◌-◌}
use Rattle.basis.specs.Limits.{table_words}
use Rattle.case_judge.proofs.clear.Given as goal

abbrev pub invariant-loop-k : goal.invariant-loop-k
invariant-loop-k l = l.k ≤ table_words
