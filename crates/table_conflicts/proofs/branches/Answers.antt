use Prim.Native.Nat.{◌<◌}
use native.Mathlib.Omega.{arith}
use Rattle.table_first_follow.specs.Rounds.{strings}
use Rattle.table_first_follow.specs.Parts.{siblings}
use Rattle.table_conflicts.proofs.Walks.{lies}
use Rattle.table_conflicts.proofs.Holders.{first_holders}
use Rattle.table_conflicts.proofs.branches.Goals as goal

pub returns-then-window-eq0 : goal.returns-then-window-eq0
returns-then-window-eq0 c = λ x h. c.least_shared-window.ensures.none c.if-window-eq0.true x h

pub returns : goal.returns
returns c = let a = c.args in let l = c.least_shared-window in let p : 0 < l.result = omega (arith, c.if-window-eq0.false) in (p, l.ensures, first_holders (strings a.prediction.now) (siblings a.table.now a.start a.end) l.result a.end (λ k m. (lies a.table.now a.end a.start k m).1) c.holder-first.result c.holder-second.result c.holder-first.ensures c.holder-second.ensures l.ensures p)
