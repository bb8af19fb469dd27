use mathlib.Core.Path.{refl, sym}
use Rattle.report_chain_steps.specs.Told.{steps_of}
use Rattle.report_chain_steps.proofs.Tails.{read_as}
use Rattle.report_chain_checks.proofs.replay.entry.Goals as goal

pub field-requires : goal.field-requires
field-requires c = c.requires

pub returns-then-tag-eq1 : goal.returns-then-tag-eq1
unfolding steps_of
returns-then-tag-eq1 c =
    let a = c.args in
    read_as a.table.now a.items.now _ a.at _ 1 a.i a.v a.tag a.i a.v (sym c.if-tag-eq1.true) refl refl c.field.ensures

pub returns-then-is_moved : goal.returns-then-is_moved
returns-then-is_moved c = c.put_moved.ensures

pub returns : goal.returns
returns c = c.put_made.ensures
