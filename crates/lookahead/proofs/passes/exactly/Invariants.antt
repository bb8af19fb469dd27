use Prim.Native.Nat.{◌≤◌}
use Rattle.lookahead.specs.Sets.{Has, Is, Passes}
use Rattle.lookahead.proofs.passes.exactly.Given as goal

abbrev pub invariant-loop-i : goal.invariant-loop-i
invariant-loop-i l = Is l.out.words (Passes (Has l.body.words) l._i) × (l._i ≤ l.n) × (l.n ≤ 8)
