use mathlib.Core.Path.{subst, ap, ◌∙◌}
use Rattle.lookahead.specs.Sets.{Decides}
use Rattle.table_layout.specs.Attributes.{attributes_of}
use Rattle.table_layout.specs.declared.Attributes.{Attributes}
use Rattle.table_first_follow.specs.Rounds.{strings}
use Rattle.table_conflicts.specs.Clashes.{NoValueIn}
use Rattle.table_conflicts.proofs.no_value.Goals as goal

pub returns : goal.returns
returns c =
    let a = c.args in
    subst (λ (x : Attributes). Decides c.none_left.result (NoValueIn (strings a.first.now) a.i x.own)) (c.attributes_of-attributes.ensures ∙ ap attributes_of c.construct_at.ensures) c.none_left.ensures
