use Rattle.text_syntax.proofs.Ruling.{Begun}
use Rattle.text_parsing.specs.Cursors.{left}
use Rattle.text_syntax.proofs.rules.read.Given as goal

abbrev pub invariant-loop-any : goal.invariant-loop-any
invariant-loop-any l = Begun l.text l.initial.nodes l.initial.terms l.initial.rules l.any l.c l.nodes l.terms l.rules

abbrev pub decreases-loop-any : goal.decreases-loop-any
decreases-loop-any l = left l.text l.c
