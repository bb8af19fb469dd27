use mathlib.Core.Path.{sym, ◌∙◌}
use Rattle.text_header.proofs.Runs.{span_turn, span_stop, span_over}
use Rattle.text_header.proofs.spans.span.Goals as goal

pub loop-i-preserved : goal.loop-i-preserved
loop-i-preserved c = sym (span_turn c.args.class c.args.text.now _ c.loop-i-test.true (sym c.member.ensures ∙ c.if-not-member.false)) ∙ c.loop-i.invariant

pub returns-then-not-member : goal.returns-then-not-member
returns-then-not-member c = sym (span_stop c.args.class c.args.text.now _ c.loop-i-test.true (sym c.member.ensures ∙ c.if-not-member.true)) ∙ c.loop-i.invariant

pub returns : goal.returns
returns c = c.max.ensures ∙ span_over c.args.class c.args.text.now c.args.at c.loop-i.i c.loop-i-test.false c.loop-i.auto.i-end c.loop-i.invariant
