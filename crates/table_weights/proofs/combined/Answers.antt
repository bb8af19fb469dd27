use native.Mathlib.Omega.{arith}
use Rattle.table_weights.proofs.combined.Goals as goal

pub returns-then-adds : goal.returns-then-adds
returns-then-adds c = rw c.if-adds.true c.at_most.ensures

pub returns-then-a-b : goal.returns-then-a-b
returns-then-a-b c = rw c.if-adds.false (omega arith)

pub returns : goal.returns
returns c = rw c.if-adds.false (omega arith)
