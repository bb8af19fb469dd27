use Prim.Native.Nat.{◌-◌, ◌≤◌, ◌+◌}
use lib.ListN.{length}
use Rattle.bench_hexadecimal.specs.Lines.{max_line}
use Rattle.bench.proofs.take_all.Given as goal

abbrev pub invariant-loop-i : goal.invariant-loop-i
invariant-loop-i l = l.held ≤ max_line + 2
