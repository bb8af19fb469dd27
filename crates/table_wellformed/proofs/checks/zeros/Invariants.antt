use mathlib.Core.Path.{◌≡◌}
use Rattle.table_wellformed.specs.Checks.{from_to}
use lib.Dec.{eqb}
use Rattle.table_layout.specs.Places.{word}
use Rattle.table_wellformed.proofs.checks.zeros.Given as goal

abbrev pub invariant-loop-k : goal.invariant-loop-k
invariant-loop-k l = from_to l.k l.end (λ j. eqb (word l.table j) 0) ≡ from_to l.start l.end (λ j. eqb (word l.table j) 0)
