use borrow.Author.Tests.{eq-eqb, ne_eqb, le-leb, lt-leb}
use Rattle.run_fields.proofs.in_frame.Goals as goal

-- src/lib.rt:79:9
pub returns-then-w-eq0 : goal.returns-then-w-eq0
returns-then-w-eq0 c = simp (eq-eqb _ _ c.if-w-eq0.true)

-- src/lib.rt:82:9
pub returns-then-p-w : goal.returns-then-p-w
returns-then-p-w c = simp (ne_eqb _ _ c.if-w-eq0.false, le-leb _ _ c.if-p-w.true, c.value_at.ensures)

-- src/lib.rt:74:1
pub returns : goal.returns
returns c = simp (ne_eqb _ _ c.if-w-eq0.false, lt-leb _ _ c.if-p-w.false)
