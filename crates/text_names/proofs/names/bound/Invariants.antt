use Rattle.text_names.specs.Names.{binds}
use Rattle.text_names.proofs.Loops.{NoneYet}
use Rattle.text_names.proofs.names.bound.Given as goal

abbrev pub invariant-loop-j : goal.invariant-loop-j
invariant-loop-j l = NoneYet l.a l.e (binds l.text l.nodes l.p) l.j
