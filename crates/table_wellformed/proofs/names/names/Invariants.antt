use mathlib.Core.Path.{◌≡◌}
use Rattle.table_wellformed.specs.Checks.{from_to}
use mathlib.Core.Bool.{◌&&◌}
use Rattle.table_wellformed.specs.Rules.{binders_laid, uses_laid}
use Rattle.table_wellformed.proofs.names.names.Given as goal

abbrev pub invariant-loop-r : goal.invariant-loop-r
invariant-loop-r l = from_to l.r l.count (λ q. binders_laid l.table q && uses_laid l.table q) ≡ from_to 0 l.count (λ q. binders_laid l.table q && uses_laid l.table q)
