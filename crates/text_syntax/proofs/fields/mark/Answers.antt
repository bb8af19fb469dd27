use mathlib.Core.Path.{refl, sym}
use native.Mathlib.Omega.{arith}
use Rattle.text_syntax.proofs.Atoms.{mark_counts, mark_counts_fault, mark_none, mark_sign}
use Rattle.text_syntax.proofs.fields.mark.Goals as goal

pub returns-then-r-eq125 : goal.returns-then-r-eq125
returns-then-r-eq125 c = mark_counts c.args.p c.args.i c.if-c-eq123.true c.passed.ensures c.counts-r.ensures c.if-r-eq125.true c.insert_node.ensures.0 c.insert_node.ensures.1 c.passed-then-r-eq125.ensures

pub returns-then-c-eq123 : goal.returns-then-c-eq123
returns-then-c-eq123 c = mark_counts_fault c.args.p c.args.i c.if-c-eq123.true c.passed.ensures c.counts-r.ensures c.if-r-eq125.false c.failed.ensures

pub returns-in_default : goal.returns-in_default
returns-in_default c = mark_none c.args.p c.args.i 0 c.if-c-eq123.false (sym c.in_default.ensures) refl

pub returns : goal.returns
returns c = mark_sign c.args.p c.args.i c.in-Some.how c.if-c-eq123.false c.in-Some.ensures.1 (λ z. omega (arith, z, c.in-Some.ensures.0)) c.insert_node-2.ensures.0 c.insert_node-2.ensures.1 c.passed-2.ensures
