use mathlib.Core.Path.{◌∙◌, sym}
use Rattle.report_wording.proofs.LineLaws.{walked_none, walked_end, walked_on}
use Rattle.report_wording.proofs.lines.line_of.Goals.{then-byte_at-eq10, else-byte_at-eq10}
use Rattle.report_wording.proofs.lines.line_of.Goals as goal

pub loop-i-init : goal.loop-i-init
loop-i-init c = walked_none _ _

pub loop-i-preserved : goal.loop-i-preserved
loop-i-preserved c = elim c.if-byte_at-eq10.branch [ then-byte_at-eq10 w ↦ walked_end w.before-is w.start-is (sym c.byte_at.ensures ∙ w.if-byte_at-eq10.true) c.loop-i-test.true c.loop-i.invariant | else-byte_at-eq10 w ↦ walked_on w.before-is w.start-is (λ h. w.if-byte_at-eq10.false (c.byte_at.ensures ∙ h)) c.loop-i-test.true c.loop-i.invariant ]
