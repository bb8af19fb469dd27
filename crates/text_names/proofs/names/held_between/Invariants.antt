use Rattle.text_names.specs.Names.{held}
use Rattle.text_names.proofs.Loops.{NoneYet}
use Rattle.text_names.proofs.names.held_between.Given as goal

abbrev pub invariant-loop-j : goal.invariant-loop-j
invariant-loop-j l = NoneYet l.a l.i (held l.nodes l.a l.i) l.j
