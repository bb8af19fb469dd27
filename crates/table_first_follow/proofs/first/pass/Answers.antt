use mathlib.Core.Path.{sym, ◌∙◌}
use Rattle.table_first_follow.proofs.first.pass.Goals as goal

pub loop-k-init : goal.loop-k-init
loop-k-init c = c.requires

pub apply_any-requires : goal.apply_any-requires
apply_any-requires c = c.loop-k.invariant

pub loop-k-preserved : goal.loop-k-preserved
loop-k-preserved c = c.apply_any.ensures

pub shape_of-family : goal.shape_of-family
shape_of-family c = c.loop-k.invariant.size ∙ sym c.requires.size

pub returns : goal.returns
returns c = c.loop-k.invariant
