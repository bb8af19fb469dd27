use mathlib.Core.Path.{◌≡◌}
use lib.ListN.{drop}
use Rattle.text_header.specs.Spans.{span_end}
use Rattle.text_header.proofs.spans.span.Given as goal

abbrev pub invariant-loop-i : goal.invariant-loop-i
invariant-loop-i l = span_end l.class l.i (drop l.i l.text) ≡ span_end l.class l.at (drop l.at l.text)
