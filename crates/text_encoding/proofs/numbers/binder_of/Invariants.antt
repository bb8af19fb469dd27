use Prim.Native.Nat.{◌-◌}
use Rattle.text_names.specs.Names.{binds}
use Rattle.text_encoding.proofs.Sums.{Seeking}
use Rattle.text_encoding.proofs.numbers.binder_of.Given as goal

abbrev pub invariant-loop-j : goal.invariant-loop-j
invariant-loop-j l = Seeking (l.i - l.a) l.a (binds l.text l.nodes l.p) (l.i - l.j) l.j
