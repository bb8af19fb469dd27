use Rattle.text_names.proofs.Loops.{any_start, any_hit, any_miss, any_end}
use Rattle.text_names.proofs.names.bound.Goals as goal

pub loop-j-init : goal.loop-j-init
loop-j-init c = any_start

pub returns-then-binds : goal.returns-then-binds
returns-then-binds c = any_hit c.loop-j.invariant c.loop-j-test.true c.binds.ensures c.if-binds.true

pub loop-j-preserved : goal.loop-j-preserved
loop-j-preserved c = any_miss c.loop-j.invariant c.loop-j-test.true c.binds.ensures c.if-binds.false

pub returns : goal.returns
returns c = any_end c.loop-j.invariant c.loop-j-test.false
