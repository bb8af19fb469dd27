use native.Mathlib.Omega.{arith}
use Prim.Native.Nat.{◌-◌}
use mathlib.Core.Path.{refl, sym}
use Rattle.report_chain_steps.specs.Told.{steps_of}
use Rattle.report_chain_steps.specs.Replayed.{stack}
use Rattle.report_chain_meaning.specs.Chains.{after}
use Rattle.report_chain_steps.proofs.Tails.{moved_as}
use Rattle.report_chain_checks.proofs.rests.moved_from.Goals as goal

pub returns-then-tag-eq11 : goal.returns-then-tag-eq11
unfolding steps_of
returns-then-tag-eq11 c =
    let a = c.args in
    let is = stack a.table.now a.items.now a.depth in
    λ h. moved_as a.table.now is (after a.p) (after (c.after_member.result - 1)) 11 a.i a.tag a.i a.v (sym c.if-tag-eq11.true) (refl) (c.after_member.ensures h)

pub returns-then-tag-eq12 : goal.returns-then-tag-eq12
unfolding steps_of
returns-then-tag-eq12 c =
    let a = c.args in
    let is = stack a.table.now a.items.now a.depth in
    λ h. moved_as a.table.now is (after a.p) (after (c.after_branch.result - 1)) 12 a.i a.tag a.i a.v (sym c.if-tag-eq12.true) (refl) (c.after_branch.ensures h)

pub returns-then-tag-eq13 : goal.returns-then-tag-eq13
unfolding steps_of
returns-then-tag-eq13 c =
    let a = c.args in
    let is = stack a.table.now a.items.now a.depth in
    λ h. moved_as a.table.now is (after a.p) (after (c.after_last_pass.result - 1)) 13 a.i a.tag a.i a.v (sym c.if-tag-eq13.true) (refl) (c.after_last_pass.ensures h)

pub returns-then-tag-eq5 : goal.returns-then-tag-eq5
unfolding steps_of
returns-then-tag-eq5 c =
    let a = c.args in
    let is = stack a.table.now a.items.now a.depth in
    λ h. moved_as a.table.now is (after a.p) (after (c.after_rule.result - 1)) 5 a.p a.tag a.i a.v (sym c.if-tag-eq5.true) (sym c.if-i-p.true) (c.after_rule.ensures h)

pub returns-then-tag-eq6 : goal.returns-then-tag-eq6
unfolding steps_of
returns-then-tag-eq6 c =
    let a = c.args in
    let is = stack a.table.now a.items.now a.depth in
    λ h. moved_as a.table.now is (after a.p) (after (c.after_pass.result - 1)) 6 a.p a.tag a.i a.v (sym c.if-tag-eq6.true) (sym c.if-i-p.true) (c.after_pass.ensures h)

pub returns-else-tag-eq6 : goal.returns-else-tag-eq6
returns-else-tag-eq6 c = λ h. absurd (omega (arith, h))

pub returns-else-i-p : goal.returns-else-i-p
returns-else-i-p c = λ h. absurd (omega (arith, h))
