use mathlib.Core.Path.{◌≡◌}
use lib.ListN.{drop}
use Rattle.text_header.specs.Spans.{starts}
use Rattle.text_header.proofs.spans.begins.Given as goal

abbrev pub invariant-loop-k : goal.invariant-loop-k
invariant-loop-k l = starts l.folded (drop l.k l.word) (drop l.k l.text) ≡ starts l.folded l.word l.text
