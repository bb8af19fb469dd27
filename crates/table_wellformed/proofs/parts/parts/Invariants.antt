use Prim.Native.Nat.{◌-◌}
use lib.Dec.{eqb}
use Rattle.table_wellformed.specs.Parts.{part_laid, parts_laid}
use Rattle.table_wellformed.proofs.Walks.{Walking}
use Rattle.table_wellformed.proofs.parts.parts.Given as goal

abbrev pub invariant-loop-j : goal.invariant-loop-j
invariant-loop-j l = Walking l.table (λ k x. part_laid l.table l.switch l.first k l.end) (λ k x. x) (λ k x. eqb k l.end) l.end (parts_laid l.table l.switch l.first l.end) l.j 0

abbrev pub decreases-loop-j : goal.decreases-loop-j
decreases-loop-j l = l.end - l.j
