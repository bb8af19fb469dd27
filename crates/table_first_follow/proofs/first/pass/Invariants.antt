use Prim.Native.Nat.{◌-◌}
use lib.ListN.{length}
use mathlib.Core.Path.{◌∙◌}
use Rattle.table_first_follow.specs.Rounds.{Between, first_low, first_of}
use Rattle.table_first_follow.proofs.first.pass.Given as goal

abbrev pub invariant-loop-k : goal.invariant-loop-k
invariant-loop-k l = Between (first_low l.table) (first_of l.table) l.family
