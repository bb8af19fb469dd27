use Prim.Native.Nat.{min}
use mathlib.Core.Path.{ap, ◌∙◌}
use Rattle.basis.specs.Limits.{max_rules, max_constructs}
use Rattle.table_weights.proofs.Settling.{made_all}
use Rattle.table_weights.proofs.weigh.Goals as goal

pub returns : goal.returns
returns c = made_all c.args.table.now _ _ _ _ _ c.settle.ensures (c.at_most.ensures ∙ ap (min max_constructs) c.word.ensures.0) (c.at_most-2.ensures ∙ ap (min max_rules) c.word-2.ensures.0) c.body_weight.ensures.0 c.one_more-grammar.ensures
