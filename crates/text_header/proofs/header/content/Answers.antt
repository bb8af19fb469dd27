use mathlib.Core.Path.{sym}
use native.Mathlib.Omega.{arith}
use lib.ListN.{length-take}
use Rattle.text_header.proofs.Lines.{content_none, content_cut, content_whole}
use Rattle.text_header.proofs.header.content.Goals as goal

pub returns-then-n-eq0 : goal.returns-then-n-eq0
returns-then-n-eq0 c = sym (content_none c.args.line.now c.if-n-eq0.true)

pub slice_bounds-result-end : goal.slice_bounds-result-end
slice_bounds-result-end c = simp length-take (omega arith)

pub returns-then-line-last-eq13 : goal.returns-then-line-last-eq13
returns-then-line-last-eq13 c = sym (content_cut c.args.line.now c.if-line-last-eq13.true)

pub returns : goal.returns
returns c = sym (content_whole c.args.line.now c.if-line-last-eq13.false)
