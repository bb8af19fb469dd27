use mathlib.Core.Path.{◌≡◌}
use Rattle.table_wellformed.specs.Checks.{from_to}
use Rattle.table_wellformed.specs.Laid.{construct_laid}
use Rattle.table_wellformed.proofs.constructs.constructs.Given as goal

abbrev pub invariant-loop-i : goal.invariant-loop-i
invariant-loop-i l = from_to l.i l.count (construct_laid l.table) ≡ from_to 0 l.count (construct_laid l.table)
