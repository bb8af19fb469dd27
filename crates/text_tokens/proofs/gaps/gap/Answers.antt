use mathlib.Core.Path.{sym, ◌∙◌}
use mathlib.Core.Bool.{false}
use Rattle.text_tokens.proofs.Gapped.{gap_turn, gap_stop, gap_over}
use Rattle.text_tokens.proofs.gaps.gap.Goals as goal

pub loop-i-preserved : goal.loop-i-preserved
loop-i-preserved c = rw c.commented-comment.ensures (sym (gap_turn c.args.text.now c.loop-i.comment c.loop-i.i c.loop-i-test.true (sym c.separates.ensures ∙ c.if-not-separates.false)) ∙ c.loop-i.invariant)

pub returns-then-not-separates : goal.returns-then-not-separates
returns-then-not-separates c = sym (gap_stop c.args.text.now c.loop-i.comment c.loop-i.i c.loop-i-test.true (sym c.separates.ensures ∙ c.if-not-separates.true)) ∙ c.loop-i.invariant

pub returns : goal.returns
returns c = c.max.ensures ∙ gap_over c.args.text.now c.loop-i.comment false c.args.at c.loop-i.i c.loop-i-test.false c.loop-i.auto.i-end c.loop-i.invariant
