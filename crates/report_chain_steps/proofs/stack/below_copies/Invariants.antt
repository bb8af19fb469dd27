use Prim.Native.Nat.{ℕ, ◌-◌, ◌<◌}
use mathlib.Core.Path.{◌≡◌}
use mathlib.Core.List.{List, ◌++◌}
use lib.ListN.{replicate}
use Rattle.report_chain_steps.specs.Replayed.{no_depth, stack}
use Rattle.report_chain_steps.proofs.stack.below_copies.Given as goal

abbrev pub invariant-loop-k : goal.invariant-loop-k
invariant-loop-k l = l.d < no_depth → (ws is : List ℕ) → stack ws l.items l.d ≡ replicate (l.n - l._k) l.b ++ is → stack ws l.items l.depth ≡ replicate l.n l.b ++ is
