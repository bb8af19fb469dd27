use lib.ListN.{length}
use Prim.Native.Nat.{ℕ, ◌≤◌}
use mathlib.Core.Path.{◌≡◌}
use Rattle.basis.specs.Limits.{max_rules}
use Rattle.table_reach.specs.Closure.{Matrix, closure}
use Rattle.table_reach.proofs.reaching.close.Given as goal

abbrev pub invariant-loop-k : goal.invariant-loop-k
invariant-loop-k l = (length l.rows ≡ max_rules) × ((u : ℕ → ℕ → ℕ) → Matrix l.initial.rows u → Matrix l.rows (closure u l.k)) × (l.k ≤ max_rules)
