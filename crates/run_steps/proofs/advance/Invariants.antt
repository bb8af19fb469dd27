use Prim.Native.Nat.{◌-◌}
use mathlib.Core.Path.{◌≡◌}
use lib.ListN.{length}
use Rattle.run_steps.specs.Steps.{whole, steps_of, Fits}
use Rattle.run_steps.proofs.advance.Given as goal

-- what is left of the grant, from here, comes to the whole grant from the start
abbrev pub invariant-loop-i : goal.invariant-loop-i
invariant-loop-i l =
    (steps_of l.table l.frame (l.grant - l._i) (whole l.constructs l.passes l.values l.reading l.run) ≡ steps_of l.table l.frame l.grant (whole l.initial.constructs l.initial.passes l.initial.values l.initial.reading l.initial.run)) × Fits l.frame (whole l.constructs l.passes l.values l.reading l.run) × (length l.reading ≡ length l.initial.reading)
