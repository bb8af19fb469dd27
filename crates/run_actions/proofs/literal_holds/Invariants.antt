use Prim.Native.Nat.{◌-◌, ◌≤◌}
use mathlib.Core.Path.{◌≡◌}
use Rattle.run_actions.specs.Acts.{literal_holds}
use Rattle.run_actions.proofs.literal_holds.Given as goal

abbrev pub invariant-loop-k : goal.invariant-loop-k
invariant-loop-k l = (literal_holds l.table l.frame l.p l.i l.k (l.n - l.k) ≡ literal_holds l.table l.frame l.p l.i 0 l.n) × (l.k ≤ l.n)
