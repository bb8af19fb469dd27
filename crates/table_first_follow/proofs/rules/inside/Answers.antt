use mathlib.Core.Path.{ap, ◌∙◌}
use native.Mathlib.Omega.{arith}
use Rattle.table_layout.specs.Attributes.{attributes_of}
use Rattle.table_layout.proofs.Views.{size_read, rule_read}
use Rattle.table_first_follow.proofs.AppliedLaws.{of_none, of_alternative, of_switch, of_concatenation, of_repetition, of_use}
use Rattle.table_first_follow.proofs.rules.inside.Goals as goal

pub overflow_add-end : goal.overflow_add-end
overflow_add-end c = omega (arith, size_read c.args.table.now c.args.i _ (c.attributes_of-attributes.ensures ∙ ap attributes_of c.construct_at.ensures) c.requires.1)

pub gather-requires : goal.gather-requires
gather-requires c = (c.requires.0, size_read c.args.table.now c.args.i _ (c.attributes_of-attributes.ensures ∙ ap attributes_of c.construct_at.ensures) c.requires.1)

pub gather-requires-in-Members : goal.gather-requires-in-Members
gather-requires-in-Members c = (c.requires.0, size_read c.args.table.now c.args.i _ (c.attributes_of-attributes.ensures ∙ ap attributes_of c.construct_at.ensures) c.requires.1)

pub gather-requires-in-Cases : goal.gather-requires-in-Cases
gather-requires-in-Cases c = (c.requires.0, size_read c.args.table.now c.args.i _ (c.attributes_of-attributes.ensures ∙ ap attributes_of c.construct_at.ensures) c.requires.1)

pub body_of-requires : goal.body_of-requires
body_of-requires c = rule_read c.args.table.now c.args.i _ (c.attributes_of-attributes.ensures ∙ ap attributes_of c.construct_at.ensures) c.in-Rule.is

pub returns-in-Nothing : goal.returns-in-Nothing
returns-in-Nothing c = of_none c.args.table.now c.args.family.now c.args.i c.requires.1 _ (c.attributes_of-attributes.ensures ∙ ap attributes_of c.construct_at.ensures) _ c.in-Nothing.is c.empty.ensures

pub returns-in-Branches : goal.returns-in-Branches
returns-in-Branches c = of_alternative c.args.table.now c.args.family.now c.args.i c.requires.1 _ (c.attributes_of-attributes.ensures ∙ ap attributes_of c.construct_at.ensures) _ c.in-Branches.is c.gather.ensures

pub returns-in-Members : goal.returns-in-Members
returns-in-Members c = of_concatenation c.args.table.now c.args.family.now c.args.i c.requires.1 _ (c.attributes_of-attributes.ensures ∙ ap attributes_of c.construct_at.ensures) _ c.in-Members.is c.gather-in-Members.ensures

pub returns-in-Body : goal.returns-in-Body
returns-in-Body c = of_repetition c.args.table.now c.args.family.now c.args.i c.requires.1 _ (c.attributes_of-attributes.ensures ∙ ap attributes_of c.construct_at.ensures) _ _ c.static_counts.result c.set_of.result.words c.in-Body.is c.static_counts.ensures c.set_of.ensures c.repeated.ensures

pub returns-in-Cases : goal.returns-in-Cases
returns-in-Cases c = of_switch c.args.table.now c.args.family.now c.args.i c.requires.1 _ (c.attributes_of-attributes.ensures ∙ ap attributes_of c.construct_at.ensures) _ c.in-Cases.is c.gather-in-Cases.ensures

pub returns-in-Rule : goal.returns-in-Rule
returns-in-Rule c = of_use c.args.table.now c.args.family.now c.args.i c.requires.1 _ (c.attributes_of-attributes.ensures ∙ ap attributes_of c.construct_at.ensures) _ _ c.in-Rule.is c.body_of.ensures c.set_of-in-Rule.ensures
