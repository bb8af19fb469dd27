use mathlib.Core.Path.{◌≡◌, refl, ◌∙◌}
use native.Mathlib.Omega.{arith}
use Rattle.text_encoding.proofs.Writing.{one_less}
use Rattle.text_encoding.proofs.Sums.{seeking_start, seeking_hit, seeking_miss, seeking_end}
use Rattle.text_encoding.proofs.numbers.binder_of.Goals as goal

pub loop-j-init : goal.loop-j-init
loop-j-init c = seeking_start refl refl

pub binds-requires : goal.binds-requires
binds-requires c = c.requires.0

pub returns-then-binds : goal.returns-then-binds
returns-then-binds c = seeking_hit c.loop-j.invariant (one_less _ _ c.loop-j-test.true) c.binds.ensures c.if-binds.true

pub loop-j-preserved : goal.loop-j-preserved
loop-j-preserved c = seeking_miss c.loop-j.invariant (one_less _ _ c.loop-j-test.true) c.binds.ensures c.if-binds.false

pub returns : goal.returns
returns c = (let z : c.args.i ≡ c.loop-j.j = omega arith in z) ∙ seeking_end c.loop-j.invariant (omega arith)
