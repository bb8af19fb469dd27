use Prim.Native.Nat.{ℕ, ◌+◌}
use mathlib.Core.Path.{refl, ap, ◌∙◌}
use native.Mathlib.Omega.{arith}
use mathlib.Core.Bool.{true, false}
use Rattle.table_layout.specs.Attributes.{attributes_of}
use Rattle.table_layout.specs.declared.Below.{Below}
use Rattle.table_layout.proofs.Views.{size_read, rule_read}
use Rattle.table_weights.specs.Sweeps.{capped}
use Rattle.table_weights.proofs.Parts.{weighed_as, parts_weighed, twice}
use Rattle.table_weights.proofs.weigh_at.Goals as goal

pub overflow_add-end : goal.overflow_add-end
overflow_add-end c = omega (arith, size_read c.args.table.now c.args.i _ (c.attributes_of-attributes.ensures ∙ ap attributes_of c.construct_at.ensures) c.requires)

pub body_weight-requires : goal.body_weight-requires
body_weight-requires c = rule_read c.args.table.now c.args.i _ (c.attributes_of-attributes.ensures ∙ ap attributes_of c.construct_at.ensures) c.in-Rule.is

pub returns-in-Nothing : goal.returns-in-Nothing
returns-in-Nothing c = weighed_as c.args.table.now c.args.weights.now c.args.i _ (c.attributes_of-attributes.ensures ∙ ap attributes_of c.construct_at.ensures) Below.Nothing c.in-Nothing.is

pub returns-in-Branches : goal.returns-in-Branches
returns-in-Branches c = parts_weighed c.args.table.now c.args.weights.now c.args.i _ (c.attributes_of-attributes.ensures ∙ ap attributes_of c.construct_at.ensures) Below.Branches c.in-Branches.is false _ _ refl c.gather.ensures.0 c.one_more.ensures

pub returns-in-Members : goal.returns-in-Members
returns-in-Members c = parts_weighed c.args.table.now c.args.weights.now c.args.i _ (c.attributes_of-attributes.ensures ∙ ap attributes_of c.construct_at.ensures) Below.Members c.in-Members.is true _ _ refl c.gather-in-Members.ensures.0 c.one_more-in-Members.ensures

pub returns-in-Body : goal.returns-in-Body
returns-in-Body c = twice _ _ _ c.word.ensures.0 c.one_more-in-Body.ensures ∙ weighed_as c.args.table.now c.args.weights.now c.args.i _ (c.attributes_of-attributes.ensures ∙ ap attributes_of c.construct_at.ensures) (Below.Body _) c.in-Body.is

pub returns-in-Cases : goal.returns-in-Cases
returns-in-Cases c = parts_weighed c.args.table.now c.args.weights.now c.args.i _ (c.attributes_of-attributes.ensures ∙ ap attributes_of c.construct_at.ensures) Below.Cases c.in-Cases.is false _ _ refl c.gather-in-Cases.ensures.0 c.one_more-in-Cases.ensures

pub returns-in-Rule : goal.returns-in-Rule
returns-in-Rule c = c.one_more-in-Rule.ensures ∙ ap (λ (x : ℕ). capped (1 + x)) c.body_weight.ensures.0 ∙ weighed_as c.args.table.now c.args.weights.now c.args.i _ (c.attributes_of-attributes.ensures ∙ ap attributes_of c.construct_at.ensures) Below.Rule c.in-Rule.is
