use native.Mathlib.Omega.{arith}
use mathlib.Core.Bool.{false≢true}
use Rattle.table_conflicts.proofs.windows.holds.Goals as goal

pub returns-then-from-at : goal.returns-then-from-at
returns-then-from-at c = ((λ e. let s = c.contains.ensures.0 e in (c.if-from-at.true, (s.0, s.1, (c.set_of.ensures.strings s.0).0 s.2))), (λ h. c.contains.ensures.1 (h.1.0, h.1.1, (c.set_of.ensures.strings h.1.0).1 h.1.2)))

pub returns : goal.returns
returns c = ((λ e. absurd (false≢true e)), (λ h. absurd (omega (arith, h.0, c.if-from-at.false))))
