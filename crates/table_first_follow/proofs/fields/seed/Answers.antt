use Prim.Native.Nat.{◌+◌, ◌≤◌, ◌<◌}
use native.Mathlib.Omega.{arith}
use Rattle.basis.specs.Limits.{max_constructs}
use Rattle.table_layout.specs.Held.{node_of}
use Rattle.table_layout.specs.declared.Construct.{Construct}
use Rattle.table_first_follow.proofs.FieldLaws.{seed_none, seed_switch, seed_literal, seed_range, seed_uint, seed_eod}
use Rattle.table_layout.proofs.Bounds.{fine_as}
use Rattle.table_first_follow.proofs.fields.seed.Goals as goal

pub overflow_add-i-in-Switch : goal.overflow_add-i-in-Switch
overflow_add-i-in-Switch c =
    let a = c.args in
    let f = fine_as a.table.now a.i c.construct_at.result c.construct_at.ensures (Construct.Switch c.in-Switch.size) c.in-Switch.is in
    let g : a.i + c.in-Switch.size ≤ max_constructs = f.1 in
    record { fits = omega arith }

pub no_default-requires : goal.no_default-requires
no_default-requires c =
    let a = c.args in
    (fine_as a.table.now a.i c.construct_at.result c.construct_at.ensures (Construct.Switch c.in-Switch.size) c.in-Switch.is).1

pub overflow_add-low : goal.overflow_add-low
overflow_add-low c =
    let a = c.args in
    let f = fine_as a.table.now a.i c.construct_at.result c.construct_at.ensures (Construct.Range c.in-Range.low c.in-Range.high) c.in-Range.is in
    let g : c.in-Range.low < 128 = f.1 in
    record { fits = omega arith }

pub overflow_add-high : goal.overflow_add-high
overflow_add-high c =
    let a = c.args in
    let f = fine_as a.table.now a.i c.construct_at.result c.construct_at.ensures (Construct.Range c.in-Range.low c.in-Range.high) c.in-Range.is in
    let g : c.in-Range.high < 128 = f.2 in
    record { fits = omega arith }

pub uint-requires : goal.uint-requires
uint-requires c =
    let a = c.args in
    (fine_as a.table.now a.i c.construct_at.result c.construct_at.ensures (Construct.Uint c.in-Uint.signed c.in-Uint.width c.in-Uint.start c.in-Uint.end c.in-Uint.binder) c.in-Uint.is).2

pub returns-in-Missing : goal.returns-in-Missing
unfolding node_of
returns-in-Missing c =
    let a = c.args in
    seed_none a.table.now a.i c.requires c.construct_at.result c.construct_at.ensures c.empty.result.words Construct.Missing c.in-Missing.is (λ x s. s) c.empty.ensures

pub returns-in-Alternative : goal.returns-in-Alternative
unfolding node_of
returns-in-Alternative c =
    let a = c.args in
    seed_none a.table.now a.i c.requires c.construct_at.result c.construct_at.ensures c.empty-in-Alternative.result.words (Construct.Alternative c.in-Alternative.size) c.in-Alternative.is (λ x s. s) c.empty-in-Alternative.ensures

pub returns-in-Concatenation : goal.returns-in-Concatenation
unfolding node_of
returns-in-Concatenation c =
    let a = c.args in
    seed_none a.table.now a.i c.requires c.construct_at.result c.construct_at.ensures c.empty-in-Concatenation.result.words (Construct.Concatenation c.in-Concatenation.size) c.in-Concatenation.is (λ x s. s) c.empty-in-Concatenation.ensures

pub returns-in-Repetition : goal.returns-in-Repetition
unfolding node_of
returns-in-Repetition c =
    let a = c.args in
    seed_none a.table.now a.i c.requires c.construct_at.result c.construct_at.ensures c.empty-in-Repetition.result.words (Construct.Repetition c.in-Repetition.size c.in-Repetition.passes) c.in-Repetition.is (λ x s. s) c.empty-in-Repetition.ensures

pub returns-in-Switch : goal.returns-in-Switch
returns-in-Switch c =
    let a = c.args in
    seed_switch a.table.now a.i c.requires c.construct_at.result c.construct_at.ensures c.neutral.result.words c.in-Switch.size c.no_default.result c.in-Switch.is c.no_default.ensures c.neutral.ensures

pub returns-in-Use : goal.returns-in-Use
unfolding node_of
returns-in-Use c =
    let a = c.args in
    seed_none a.table.now a.i c.requires c.construct_at.result c.construct_at.ensures c.empty-in-Use.result.words (Construct.Use c.in-Use.rule) c.in-Use.is (λ x s. s) c.empty-in-Use.ensures

pub returns-in-Literal : goal.returns-in-Literal
returns-in-Literal c =
    let a = c.args in
    seed_literal a.table.now a.i c.requires c.construct_at.result c.construct_at.ensures c.single.result.words c.in-Literal.length c.word.result c.in-Literal.is
    (fine_as a.table.now a.i c.construct_at.result c.construct_at.ensures (Construct.Literal c.in-Literal.length) c.in-Literal.is).1 c.word.ensures.0 c.single.ensures

pub returns-in-Range : goal.returns-in-Range
returns-in-Range c =
    let a = c.args in
    seed_range a.table.now a.i c.requires c.construct_at.result c.construct_at.ensures c.numbered.result.words c.in-Range.low c.in-Range.high c.in-Range.is
    (fine_as a.table.now a.i c.construct_at.result c.construct_at.ensures (Construct.Range c.in-Range.low c.in-Range.high) c.in-Range.is).2 c.numbered.ensures

pub returns-in-Uint : goal.returns-in-Uint
returns-in-Uint c =
    let a = c.args in
    seed_uint a.table.now a.i c.requires c.construct_at.result c.construct_at.ensures c.uint.result.words c.in-Uint.signed c.in-Uint.width c.in-Uint.start c.in-Uint.end c.in-Uint.binder c.in-Uint.is c.uint.ensures

pub returns-in-Eod : goal.returns-in-Eod
returns-in-Eod c =
    let a = c.args in
    seed_eod a.table.now a.i c.requires c.construct_at.result c.construct_at.ensures c.single-in-Eod.result.words c.in-Eod.is c.single-in-Eod.ensures
