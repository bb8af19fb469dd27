use Prim.Native.Nat.{ℕ, ◌+◌, ◌-◌, ◌≤◌, ◌<◌}
use mathlib.Core.Path.{◌≡◌}
use lib.ListN.{length}
use Rattle.report_chain_steps.specs.Told.{told}
use Rattle.report_chain_steps.specs.Replayed.{no_depth, Tail}
use Rattle.report_chain_checks.proofs.replay.replayed.Given as goal

abbrev pub invariant-loop-k : goal.invariant-loop-k
invariant-loop-k l = (l.k ≤ l.count) × (length l.items ≡ length l.initial.items) × (l.at.depth < no_depth → (n : ℕ) → Tail l.table l.initial.items l.initial.at (told l.steps l.count n) → Tail l.table l.items l.at (told l.steps l.k (l.count - l.k + n)))
