use mathlib.Core.Path.{◌≡◌}
use Rattle.table_wellformed.specs.Checks.{from_to}
use Rattle.table_wellformed.specs.Rules.{construct_named}
use Rattle.table_wellformed.proofs.names.rule_uses.Given as goal

abbrev pub invariant-loop-i : goal.invariant-loop-i
invariant-loop-i l = from_to l.i l.end (construct_named l.table l.first l.last) ≡ from_to l.start l.end (construct_named l.table l.first l.last)
