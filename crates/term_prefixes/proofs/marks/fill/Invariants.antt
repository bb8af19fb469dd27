use Prim.Native.Nat.{◌-◌, ◌≤◌}
use Rattle.term_prefixes.specs.Marks.{Filled}
use Rattle.term_prefixes.proofs.marks.fill.Given as goal

abbrev pub invariant-loop-j : goal.invariant-loop-j
invariant-loop-j l = Filled l.first l.block l.j l.values × (l.j ≤ 64)
