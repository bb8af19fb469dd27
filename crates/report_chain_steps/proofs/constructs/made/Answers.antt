use mathlib.Core.Path.{sym}
use Rattle.report_chain_steps.specs.Told.{steps_of}
use Rattle.report_chain_steps.specs.Replayed.{stack}
use Rattle.report_chain_steps.proofs.Tails.{made_as}
use Rattle.report_chain_steps.proofs.constructs.made.Goals as goal

pub returns-in-2 : goal.returns-in-2
unfolding steps_of
returns-in-2 c =
    let a = c.args in
    let is = stack a.table.now a.items.now a.depth in
    λ h. made_as a.table.now is (stack a.table.now a.items.now c.of_use.result) a.i 2 a.tag a.v (sym c.in-2.is) (c.of_use.ensures h)

pub returns-in-3 : goal.returns-in-3
unfolding steps_of
returns-in-3 c =
    let a = c.args in
    let is = stack a.table.now a.items.now a.depth in
    λ h. made_as a.table.now is (stack a.table.now a.items.now c.of_repetition.result) a.i 3 a.tag a.v (sym c.in-3.is) (c.of_repetition.ensures h)

pub returns-in-4 : goal.returns-in-4
unfolding steps_of
returns-in-4 c =
    let a = c.args in
    let is = stack a.table.now a.items.now a.depth in
    λ h. made_as a.table.now is (stack a.table.now a.items.now c.of_eod.result) a.i 4 a.tag a.v (sym c.in-4.is) (c.of_eod.ensures h)

pub returns-in-8 : goal.returns-in-8
unfolding steps_of
returns-in-8 c =
    let a = c.args in
    let is = stack a.table.now a.items.now a.depth in
    λ h. made_as a.table.now is (stack a.table.now a.items.now c.of_no_case.result) a.i 8 a.tag a.v (sym c.in-8.is) (c.of_no_case.ensures h)

pub returns-in-9 : goal.returns-in-9
unfolding steps_of
returns-in-9 c =
    let a = c.args in
    let is = stack a.table.now a.items.now a.depth in
    λ h. made_as a.table.now is (stack a.table.now a.items.now c.of_branch.result) a.i 9 a.tag a.v (sym c.in-9.is) (c.of_branch.ensures h)

pub returns-in-10 : goal.returns-in-10
unfolding steps_of
returns-in-10 c =
    let a = c.args in
    let is = stack a.table.now a.items.now a.depth in
    λ h. made_as a.table.now is (stack a.table.now a.items.now c.of_members.result) a.i 10 a.tag a.v (sym c.in-10.is) (c.of_members.ensures h)
