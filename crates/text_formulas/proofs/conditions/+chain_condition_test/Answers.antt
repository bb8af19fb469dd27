use native.Mathlib.Omega.{arith}
use Rattle.std.proofs.Common.{[]}
use Rattle.text_parsing.proofs.Steps.{then}
use Rattle.text_parsing.proofs.Loops.{turn_falls}
use Rattle.text_formulas.proofs.Testing.{test_group, test_deep, test_plain, chain_turn, chain_end, condition_and, condition_or, condition_only}
use Rattle.text_formulas.proofs.conditions.+chain_condition_test.Goals as goal

pub chain-loop-c-smaller : goal.chain-loop-c-smaller
chain-loop-c-smaller t c = turn_falls c.loop-c.c (rw c.loop-c-test.true c.requires) c.passed.ensures (then (c.test-r.ensures []) (c.add_sign-c.ensures c.args.text.now []))

pub chain-loop-c-preserved : goal.chain-loop-c-preserved
chain-loop-c-preserved t c = chain_turn c.args.code c.args.tag c.args.d c.requires c.loop-c.invariant c.loop-c-test.true c.passed.ensures c.test-r.ensures (c.add_sign-c.ensures c.args.text.now)

pub chain-returns : goal.chain-returns
chain-returns t c = chain_end c.args.code c.args.tag c.args.d c.loop-c.invariant c.loop-c-test.false

pub condition-returns-in-38 : goal.condition-returns-in-38
condition-returns-in-38 t c = condition_and c.args.d c.test-r.ensures c.in-38.is c.chain.ensures

pub condition-returns-in-124 : goal.condition-returns-in-124
condition-returns-in-124 t c = condition_or c.args.d c.test-r.ensures c.in-124.is c.chain-in-124.ensures

pub condition-returns-in_default : goal.condition-returns-in_default
condition-returns-in_default t c = condition_only c.args.d c.test-r.ensures (λ z. omega (arith, z)) (λ z. omega (arith, z))

pub test-returns-in-40 : goal.test-returns-in-40
test-returns-in-40 t c = test_group c.args.d c.in-40.is c.if-d-lt-MAX_NESTING.true c.passed.ensures c.condition-r.ensures c.want.ensures.0

pub test-returns-in-40-2 : goal.test-returns-in-40-2
test-returns-in-40-2 t c = test_deep c.args.d c.in-40.is c.if-d-lt-MAX_NESTING.false c.failed.ensures

pub test-returns-in_default : goal.test-returns-in_default
test-returns-in_default t c = test_plain c.args.d (λ z. omega (arith, z)) c.calculation-r.ensures c.comparison.ensures
