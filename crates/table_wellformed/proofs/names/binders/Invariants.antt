use Prim.Native.Nat.{◌+◌, ◌-◌, ◌≤◌}
use lib.Dec.{eqb}
use Rattle.table_wellformed.proofs.Walks.{Walking}
use Rattle.table_wellformed.specs.Rules.{member_laid, next_variable, binders_from}
use Rattle.table_wellformed.proofs.names.binders.Given as goal

abbrev pub invariant-loop-j : goal.invariant-loop-j
invariant-loop-j l = Walking l.table (member_laid l.table) (next_variable l.table) (λ k y. eqb y l.last) l.end (binders_from l.table l.start l.end l.first l.last) l.j l.x × (l.x ≤ l.first + l.j)

abbrev pub decreases-loop-j : goal.decreases-loop-j
decreases-loop-j l = l.end - l.j
