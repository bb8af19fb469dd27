use native.Mathlib.Omega.{arith}
use Rattle.std.proofs.Common.{[], refl}
use Rattle.text_parsing.proofs.Steps.{then}
use Rattle.text_parsing.proofs.Loops.{turn_falls}
use Rattle.text_formulas.proofs.Choosing.{alternative_with, alternative_only, excluded_set, excluded_deep, excluded_item, alternatives_turn, set_reads}
use Rattle.text_formulas.proofs.sets.+alternative_excluded_value_set.Goals as goal

pub alternative-returns-then-a-eq33 : goal.alternative-returns-then-a-eq33
alternative-returns-then-a-eq33 t c = alternative_with c.args.d c.item-a.ensures c.if-a-eq33.true c.passed.ensures c.excluded-r.ensures (c.add_sign.ensures c.args.text.now)

pub alternative-returns : goal.alternative-returns
alternative-returns t c = alternative_only c.args.d c.item-a.ensures c.if-a-eq33.false

pub excluded-returns-in-40 : goal.excluded-returns-in-40
excluded-returns-in-40 t c = excluded_set c.args.d c.in-40.is c.if-d-lt-MAX_NESTING.true c.passed.ensures c.value_set-r.ensures c.want.ensures.0

pub excluded-returns-in-40-2 : goal.excluded-returns-in-40-2
excluded-returns-in-40-2 t c = excluded_deep c.args.d c.in-40.is c.if-d-lt-MAX_NESTING.false c.failed.ensures

pub excluded-returns-in_default : goal.excluded-returns-in_default
excluded-returns-in_default t c = excluded_item c.args.d (λ z. omega (arith, z)) c.item.ensures

pub value_set-loop-c-smaller : goal.value_set-loop-c-smaller
value_set-loop-c-smaller t c = turn_falls c.loop-c.c (rw c.loop-c-test.true refl) c.passed.ensures (then (c.alternative-r.ensures []) (c.add_sign-c.ensures c.args.text.now []))

pub value_set-loop-c-preserved : goal.value_set-loop-c-preserved
value_set-loop-c-preserved t c = alternatives_turn c.args.d c.loop-c.invariant c.loop-c-test.true c.passed.ensures c.alternative-r.ensures (c.add_sign-c.ensures c.args.text.now)

pub value_set-returns : goal.value_set-returns
value_set-returns t c = set_reads c.args.d c.alternative-c.ensures c.loop-c.invariant c.loop-c-test.false
