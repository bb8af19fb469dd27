use Rattle.run_matcher.proofs.first_refusal.Goals as goal

-- src/lib.rt:28:9
pub returns-then-unsound : goal.returns-then-unsound
returns-then-unsound c = simp c.if-unsound.true

-- src/lib.rt:31:9
pub returns-then-long : goal.returns-then-long
returns-then-long c = simp (c.if-unsound.false, c.if-long.true)

-- src/lib.rt:34:9
pub returns-then-small : goal.returns-then-small
returns-then-small c = simp (c.if-unsound.false, c.if-long.false, c.if-small.true)

-- src/lib.rt:24:1
pub returns : goal.returns
returns c = simp (c.if-unsound.false, c.if-long.false, c.if-small.false)
