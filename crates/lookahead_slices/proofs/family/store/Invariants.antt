use Prim.Native.Nat.{◌*◌, ◌≤◌}
use lib.ListN.{get_or}
use Rattle.lookahead_slices.proofs.WriteLaws.{Written}
use Rattle.lookahead_slices.proofs.family.store.Given as goal

abbrev pub invariant-loop-k : goal.invariant-loop-k
invariant-loop-k l = Written (λ m. get_or l.x m 0) l.initial.family (8 * l.i) l.k l.family × (l.k ≤ 8)
