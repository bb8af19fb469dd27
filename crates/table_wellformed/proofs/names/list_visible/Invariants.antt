use mathlib.Core.Path.{◌≡◌}
use Rattle.table_wellformed.specs.Checks.{from_to}
use Rattle.term_words.specs.Words.{term_at}
use Rattle.table_layout.specs.Held.{term_words}
use Rattle.table_wellformed.specs.Rules.{term_named}
use Rattle.table_wellformed.proofs.names.list_visible.Given as goal

abbrev pub invariant-loop-t : goal.invariant-loop-t
invariant-loop-t l = from_to l.t l.end (λ u. term_named l.table l.first l.last l.i (term_at (term_words l.table) u)) ≡ from_to l.start l.end (λ u. term_named l.table l.first l.last l.i (term_at (term_words l.table) u))
