use mathlib.Core.Path.{◌≡◌}
use Rattle.table_wellformed.specs.Checks.{from_to}
use Rattle.table_wellformed.specs.Lists.{term_laid}
use Rattle.table_wellformed.proofs.lists.terms_laid.Given as goal

abbrev pub invariant-loop-t : goal.invariant-loop-t
invariant-loop-t l = from_to l.t l.count (term_laid l.table) ≡ from_to 0 l.count (term_laid l.table)
