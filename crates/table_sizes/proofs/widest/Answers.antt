use Rattle.table_sizes.specs.Measures.{largest}
use mathlib.Core.Path.{ap₂, ◌∙◌}
use native.Mathlib.Omega.{arith}
use Rattle.table_sizes.proofs.WidestLaws.{widening_none, widening_more, widening_done}
use Rattle.table_sizes.proofs.widest.Goals as goal

pub loop-x-init : goal.loop-x-init
loop-x-init c = widening_none c.args.table.now

pub loop-x-preserved : goal.loop-x-preserved
loop-x-preserved c = widening_more c.args.table.now c.loop-x.x c.loop-x.sizes c.largest.result c.loop-x.invariant c.loop-x-test.true (c.largest.ensures ∙ ap₂ largest c.variable_word.ensures.0 c.variable_word-in-loop-x.ensures.0)

pub returns : goal.returns
returns c = widening_done c.args.table.now c.loop-x.x c.loop-x.sizes c.loop-x.invariant c.loop-x-test.false
