use Prim.Native.Nat.{ℕ, ◌≤◌}
use mathlib.Core.List.{List}
use Rattle.report_chain_steps.specs.Replayed.{stack, FirstOf}
use Rattle.table_first_follow.specs.Sets.{FirstSets}
use Rattle.report_chain_checks.proofs.starts.ready.Given as goal

abbrev pub invariant-loop-d : goal.invariant-loop-d
invariant-loop-d l = (l.d ≤ l.depth) × ((ws : List ℕ) → FirstSets ws l.first → FirstOf ws (stack ws l.items l.d))
