use Prim.Native.Nat.{◌+◌}
use mathlib.Core.Path.{◌≡◌, ◌∙◌}
use native.Mathlib.Omega.{arith}
use Rattle.table_layout.specs.Places.{construct_count}
use Rattle.table_structure.proofs.Facts.{facts}
use Rattle.table_conflicts.proofs.Meaning.{empty_iff}
use Rattle.text_admission.proofs.Marking.{marking_start, marking_turn, marking_end}
use Rattle.text_store.specs.Words.{node_start}
use Rattle.text_store.proofs.Numbers.{at_second_place}
use Rattle.text_admission.proofs.marks.least_mark.Goals as goal

pub loop-i-init : goal.loop-i-init
loop-i-init c = (marking_start, omega arith, omega (arith, c.word-count.ensures.0, (facts c.args.table.now c.requires.0).counts.constructs))

pub empty_body-empty-requires : goal.empty_body-empty-requires
empty_body-empty-requires c = (c.requires.1, omega (arith, c.loop-i.invariant.2, c.loop-i-test.true))

pub loop-i-preserved : goal.loop-i-preserved
loop-i-preserved c = let iff = empty_iff c.args.table.now c.args.first.now c.requires.2 c.loop-i.i (omega (arith, c.loop-i.invariant.2, c.loop-i-test.true)) in (marking_turn c.loop-i.invariant.0 c.empty_body-empty.result (λ e. iff.0 (c.empty_body-empty.ensures.0 e)) (λ b. c.empty_body-empty.ensures.1 (iff.1 b)) (c.min-least.ensures ∙ simp (c.place_if.ensures, c.node_word.ensures)), omega (arith, c.loop-i-test.true), c.loop-i.invariant.2)

pub returns : goal.returns
returns c = let e : c.loop-i.i ≡ construct_count c.args.table.now = omega (arith, c.loop-i.invariant.1, c.loop-i-test.false, c.word-count.ensures.0) in marking_end c.loop-i.invariant.0 e (λ j. omega (arith, c.type_inv.nodes (node_start j + at_second_place)))
