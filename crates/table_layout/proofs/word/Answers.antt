use native.Mathlib.Omega.{arith}
use mathlib.Core.Path.{sym}
use lib.ListN.{get_or-eq_default}
use Rattle.table_layout.proofs.word.Goals as goal

-- src/lib.rt:40:9
pub returns-then-k-table : goal.returns-then-k-table
returns-then-k-table c = (c.wide.ensures.0, c.wide.ensures.1)

-- src/lib.rt:36:1
pub returns : goal.returns
returns c =
    (sym (get_or-eq_default c.args.table.now 0 c.if-k-table.false), omega arith)
