use Prim.Native.Nat.{ℕ, ◌≤◌, ◌<◌}
use Rattle.table_judge.specs.Sound.{SetsStand}
use Rattle.table_judge.proofs.sound.all_stand.Given as goal

abbrev pub invariant-loop-i : goal.invariant-loop-i
invariant-loop-i l = ((j : ℕ) → j < l.i → SetsStand l.table j) × (l.i ≤ l.count)
