use Rattle.std.proofs.Common.{[], refl, sym, ◌∙◌}
use Rattle.text_parsing.proofs.Loops.{turn_falls}
use Rattle.text_syntax.proofs.Chains.{expression_reads, concatenation_reads, branches_turn, members_turn, factor_reads, atom_group, atom_switch, group_deep, switch_deep, case_reads, cases_turn, ending_default, ending_plain, case_falls}
use Rattle.text_syntax.proofs.expressions.+case_concatenation_ending_expression_factor_item_switch.Goals.{item-in-40+else-d-lt-MAX_NESTING, item-in-91+else-d-lt-MAX_NESTING-2}
use Rattle.text_syntax.proofs.expressions.+case_concatenation_ending_expression_factor_item_switch.Goals as goal

pub case-returns-clause-reads : goal.case-returns-clause-reads
case-returns-clause-reads t c = case_reads c.args.d c.condition-a.ensures c.want-b.ensures.0 c.expression-r.ensures c.case_end.ensures

pub case-returns-clause-result_bound : goal.case-returns-clause-result_bound
case-returns-clause-result_bound t c = case_falls c.args.text.now c.args.c c.condition-a.result c.want-b.result c.expression-r.result c.case_end.result (c.condition-a.ensures []).falls c.want-b.ensures.1 c.expression-r.ensures.falls (c.case_end.ensures []).falls (c.want-b.ensures.0 [] []).falls

pub concatenation-loop-c-smaller : goal.concatenation-loop-c-smaller
concatenation-loop-c-smaller t c = turn_falls c.loop-c.c (rw c.loop-c-test.true refl) c.passed.ensures c.factor-c-in-loop-c.ensures

pub concatenation-loop-c-preserved : goal.concatenation-loop-c-preserved
concatenation-loop-c-preserved t c = members_turn c.args.d c.args.from.start c.args.from.nodes c.loop-c.many c.loop-c.invariant c.loop-c-test.true c.passed.ensures c.factor-c-in-loop-c.ensures

pub concatenation-returns : goal.concatenation-returns
concatenation-returns t c = concatenation_reads c.args.d c.loop-c.many c.factor-c.ensures c.loop-c.invariant c.loop-c-test.false c.chained.ensures.0 c.chained.ensures.1

pub ending-returns-then-c-eq58 : goal.ending-returns-then-c-eq58
ending-returns-then-c-eq58 t c = ending_default c.args.d c.args.p c.args.i c.if-c-eq58.true c.passed.ensures c.expression-a.ensures c.want-r.ensures.0 c.switch_end.ensures

pub ending-returns : goal.ending-returns
ending-returns t c = ending_plain c.args.d c.args.p c.args.i c.requires.1 c.if-c-eq58.false c.switch_end-2.ensures

pub expression-loop-c-smaller : goal.expression-loop-c-smaller
expression-loop-c-smaller t c = turn_falls c.loop-c.c (rw c.loop-c-test.true refl) c.passed.ensures c.concatenation-c-in-loop-c.ensures

pub expression-loop-c-preserved : goal.expression-loop-c-preserved
expression-loop-c-preserved t c = branches_turn c.args.d c.args.from.start c.args.from.nodes c.loop-c.many c.loop-c.invariant c.loop-c-test.true c.passed.ensures c.concatenation-c-in-loop-c.ensures

pub expression-returns : goal.expression-returns
expression-returns t c = expression_reads c.args.d c.loop-c.many c.concatenation-c.ensures c.loop-c.invariant c.loop-c-test.false c.chained.ensures.0 c.chained.ensures.1

pub factor-returns : goal.factor-returns
factor-returns t c = factor_reads c.args.d c.item-r.ensures c.mark.ensures

pub item-returns-in-40 : goal.item-returns-in-40
item-returns-in-40 t c = atom_group c.args.d c.in-40.is c.if-d-lt-MAX_NESTING.true c.passed.ensures c.expression-r.ensures c.want.ensures.0

pub item-returns-in-91 : goal.item-returns-in-91
item-returns-in-91 t c = atom_switch c.args.d c.in-91.is c.if-d-lt-MAX_NESTING-2.true c.passed-in-91.ensures c.switch.ensures

pub item-returns-in-40-2 : goal.item-returns-in-40-2
item-returns-in-40-2 t c =
    elim c.in-40-2-1.branch [
      | item-in-40+else-d-lt-MAX_NESTING w ↦ group_deep c.args.d w.in-40.is w.if-d-lt-MAX_NESTING.false c.failed.ensures
      | item-in-91+else-d-lt-MAX_NESTING-2 w ↦ switch_deep c.args.d w.in-91.is w.if-d-lt-MAX_NESTING-2.false c.failed.ensures
    ]

pub switch-loop-nodes-preserved : goal.switch-loop-nodes-preserved
switch-loop-nodes-preserved t c = cases_turn c.args.d c.args.p c.args.i c.loop-nodes.invariant (sym c.further.ensures ∙ c.loop-nodes-test.true) c.case-c-in-loop-nodes.ensures.reads
