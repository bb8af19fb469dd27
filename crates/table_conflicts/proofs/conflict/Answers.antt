use mathlib.Core.Path.{subst, ap, ◌∙◌}
use Rattle.table_layout.specs.Attributes.{attributes_of}
use Rattle.table_layout.specs.declared.Attributes.{Attributes}
use Rattle.table_layout.proofs.Views.{size_read}
use Rattle.table_first_follow.specs.Rounds.{strings}
use Rattle.table_conflicts.specs.Clashes.{ClashBelow}
use Rattle.table_conflicts.proofs.conflict.Goals as goal

pub clash_of-requires : goal.clash_of-requires
clash_of-requires c =
    let s = c in
    (s.requires.0, s.requires.1, s.requires.2, s.requires.3, size_read s.args.table.now s.args.i _ (c.attributes_of-attributes.ensures ∙ ap attributes_of c.construct_at.ensures) s.requires.3)

pub returns : goal.returns
returns c =
    let a = c.args in
    subst (λ (x : Attributes). ClashBelow a.table.now (strings a.follow.now) (strings a.prediction.now) a.i x.size x.below c.clash_of.result) (c.attributes_of-attributes.ensures ∙ ap attributes_of c.construct_at.ensures) c.clash_of.ensures
