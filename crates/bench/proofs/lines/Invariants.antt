use Prim.Native.Nat.{◌≤◌, ◌+◌}
use Rattle.bench_hexadecimal.specs.Lines.{max_line}
use Rattle.bench.proofs.lines.Given as goal

abbrev pub invariant-loop-turns : goal.invariant-loop-turns
invariant-loop-turns l = l.held ≤ max_line + 2
