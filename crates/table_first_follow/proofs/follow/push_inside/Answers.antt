use Prim.Native.Nat.{◌<◌}
use mathlib.Core.Path.{ap, ◌∙◌}
use native.Mathlib.Omega.{arith}
use Rattle.table_layout.specs.Attributes.{attributes_of}
use Rattle.table_layout.proofs.Views.{size_read, rule_read}
use Rattle.table_first_follow.proofs.PushLaws.{alternative_owed, switch_owed, concatenation_owed, alternative_pushed, switch_pushed, concatenation_pushed, repetition_pushed, rule_pushed, none_pushed}
use Rattle.table_first_follow.proofs.follow.push_inside.Goals as goal

pub overflow_add-end : goal.overflow_add-end
overflow_add-end c = omega (arith, size_read c.args.table.now c.args.i _ (c.attributes_of-attributes.ensures ∙ ap attributes_of c.construct_at.ensures) c.requires.0)

pub hand-requires : goal.hand-requires
hand-requires c =
    let a = c.args in
    let p = c.requires in
    let h : a.i < 257 = omega (arith, p.0) in
    (p.3.size, p.1, size_read a.table.now a.i _ (c.attributes_of-attributes.ensures ∙ ap attributes_of c.construct_at.ensures) p.0, p.2, c.set_of-set.ensures.proper, alternative_owed a.table.now a.first.now a.family.now p.1 p.2 p.3 a.i h c.set_of-set.result.words c.set_of-set.ensures p.0 _ (c.attributes_of-attributes.ensures ∙ ap attributes_of c.construct_at.ensures) c.in-Branches.is)

pub hand-requires-in-Members : goal.hand-requires-in-Members
hand-requires-in-Members c =
    let a = c.args in
    let p = c.requires in
    let h : a.i < 257 = omega (arith, p.0) in
    (p.3.size, p.1, size_read a.table.now a.i _ (c.attributes_of-attributes.ensures ∙ ap attributes_of c.construct_at.ensures) p.0, p.2, c.set_of-set.ensures.proper, concatenation_owed a.table.now a.first.now a.family.now p.1 p.2 p.3 a.i h c.set_of-set.result.words c.set_of-set.ensures p.0 _ (c.attributes_of-attributes.ensures ∙ ap attributes_of c.construct_at.ensures) c.in-Members.is)

pub give-requires : goal.give-requires
give-requires c = c.requires.3.size

pub hand-requires-in-Cases : goal.hand-requires-in-Cases
hand-requires-in-Cases c =
    let a = c.args in
    let p = c.requires in
    let h : a.i < 257 = omega (arith, p.0) in
    (p.3.size, p.1, size_read a.table.now a.i _ (c.attributes_of-attributes.ensures ∙ ap attributes_of c.construct_at.ensures) p.0, p.2, c.set_of-set.ensures.proper, switch_owed a.table.now a.first.now a.family.now p.1 p.2 p.3 a.i h c.set_of-set.result.words c.set_of-set.ensures p.0 _ (c.attributes_of-attributes.ensures ∙ ap attributes_of c.construct_at.ensures) c.in-Cases.is)

pub body_of-requires : goal.body_of-requires
body_of-requires c = rule_read c.args.table.now c.args.i _ (c.attributes_of-attributes.ensures ∙ ap attributes_of c.construct_at.ensures) c.in-Rule.is

pub returns-in-Nothing : goal.returns-in-Nothing
returns-in-Nothing c =
    let a = c.args in
    let p = c.requires in
    let h : a.i < 257 = omega (arith, p.0) in
    none_pushed a.table.now a.first.now a.family.now p.1 p.2 p.3 a.i h c.set_of-set.result.words c.set_of-set.ensures p.0 _ (c.attributes_of-attributes.ensures ∙ ap attributes_of c.construct_at.ensures) c.in-Nothing.is

pub returns-in-Branches : goal.returns-in-Branches
returns-in-Branches c =
    let a = c.args in
    let p = c.requires in
    let h : a.i < 257 = omega (arith, p.0) in
    alternative_pushed a.table.now a.first.now a.family.now p.1 p.2 p.3 a.i h c.set_of-set.result.words c.set_of-set.ensures p.0 _ (c.attributes_of-attributes.ensures ∙ ap attributes_of c.construct_at.ensures) c.hand.new.family c.hand.result c.in-Branches.is c.hand.ensures

pub returns-in-Members : goal.returns-in-Members
returns-in-Members c =
    let a = c.args in
    let p = c.requires in
    let h : a.i < 257 = omega (arith, p.0) in
    concatenation_pushed a.table.now a.first.now a.family.now p.1 p.2 p.3 a.i h c.set_of-set.result.words c.set_of-set.ensures p.0 _ (c.attributes_of-attributes.ensures ∙ ap attributes_of c.construct_at.ensures) c.hand-in-Members.new.family c.hand-in-Members.result c.in-Members.is c.hand-in-Members.ensures

pub returns-in-Body : goal.returns-in-Body
returns-in-Body c =
    let a = c.args in
    let p = c.requires in
    let h : a.i < 257 = omega (arith, p.0) in
    repetition_pushed a.table.now a.first.now a.family.now p.1 p.2 p.3 a.i h c.set_of-set.result.words c.set_of-set.ensures p.0 _ (c.attributes_of-attributes.ensures ∙ ap attributes_of c.construct_at.ensures) c.give.new.family c.give.result _ c.set_of.result.words c.at_least-further.result.words c.join.result.words c.in-Body.is c.set_of.ensures c.at_least-further.ensures c.join.ensures c.give.ensures

pub returns-in-Cases : goal.returns-in-Cases
returns-in-Cases c =
    let a = c.args in
    let p = c.requires in
    let h : a.i < 257 = omega (arith, p.0) in
    switch_pushed a.table.now a.first.now a.family.now p.1 p.2 p.3 a.i h c.set_of-set.result.words c.set_of-set.ensures p.0 _ (c.attributes_of-attributes.ensures ∙ ap attributes_of c.construct_at.ensures) c.hand-in-Cases.new.family c.hand-in-Cases.result c.in-Cases.is c.hand-in-Cases.ensures

pub returns-in-Rule : goal.returns-in-Rule
returns-in-Rule c =
    let a = c.args in
    let p = c.requires in
    let h : a.i < 257 = omega (arith, p.0) in
    rule_pushed a.table.now a.first.now a.family.now p.1 p.2 p.3 a.i h c.set_of-set.result.words c.set_of-set.ensures p.0 _ (c.attributes_of-attributes.ensures ∙ ap attributes_of c.construct_at.ensures) c.give-in-Rule.new.family c.give-in-Rule.result c.body_of.result c.in-Rule.is c.body_of.ensures c.give-in-Rule.ensures
