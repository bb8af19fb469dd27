use Prim.Native.Nat.{◌≤◌}
use Rattle.lookahead_slices.proofs.WriteLaws.{Written}
use Rattle.lookahead_slices.specs.Narrow.{half}
use Rattle.lookahead_slices.proofs.narrow.put.Given as goal

abbrev pub invariant-loop-k : goal.invariant-loop-k
invariant-loop-k l = Written (half l.x) l.initial.table l.at l.k l.table × (l.k ≤ 16)
