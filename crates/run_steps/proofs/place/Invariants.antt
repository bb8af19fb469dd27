use Prim.Native.Nat.{ℕ, ◌-◌, ◌≤◌}
use mathlib.Core.Path.{◌≡◌}
use Rattle.basis.specs.Limits.{max_entries}
use Rattle.run_steps.specs.Steps.{placed}
use Rattle.run_steps.proofs.place.Given as goal

abbrev pub invariant-loop-j : goal.invariant-loop-j
invariant-loop-j l = (placed (λ (i : ℕ). i) l.table l.j l.end l.k l.constructs ≡ placed (λ (i : ℕ). i) l.table l.start l.end l.at l.initial.constructs) × (placed (λ (i : ℕ). 0) l.table l.j l.end l.k l.passes ≡ placed (λ (i : ℕ). 0) l.table l.start l.end l.at l.initial.passes) × (l.k ≤ max_entries)

abbrev pub decreases-loop-j : goal.decreases-loop-j
decreases-loop-j l = l.end - l.j
