use mathlib.Core.Path.{refl}
use Rattle.table_reach.proofs.Rows.{matrix_first, matrix_next, matrix_last}
use borrow.Author.Rules.{rules}
use Rattle.table_reach.proofs.reaching.close.Goals as goal

pub loop-k-init : goal.loop-k-init
loop-k-init c = (c.requires, (λ u m. matrix_first u _ m), search rules)

pub loop-k-preserved : goal.loop-k-preserved
loop-k-preserved c = let l = c.loop-k in (c.through.ensures.many, (λ u m. matrix_next u _ _ _ _ (search rules) refl c.through.ensures (l.invariant.1 u m)), search rules)

pub returns : goal.returns
returns c = λ u m. matrix_last u _ _ (c.loop-k.invariant.1 u m) (search rules) (search rules)
