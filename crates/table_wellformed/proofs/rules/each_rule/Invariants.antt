use mathlib.Core.Path.{◌≡◌}
use Rattle.table_wellformed.specs.Checks.{from_to}
use Rattle.table_wellformed.specs.Rules.{rule_laid}
use Rattle.table_wellformed.proofs.rules.each_rule.Given as goal

abbrev pub invariant-loop-r : goal.invariant-loop-r
invariant-loop-r l = from_to l.r l.count (rule_laid l.table) ≡ from_to 0 l.count (rule_laid l.table)
