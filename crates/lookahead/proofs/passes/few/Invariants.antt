use Prim.Native.Nat.{◌≤◌}
use Rattle.lookahead.proofs.PassLaws.{Range}
use Rattle.lookahead.specs.Sets.{Has, Is, Passes}
use Rattle.lookahead.proofs.passes.few.Given as goal

abbrev pub invariant-loop-k : goal.invariant-loop-k
invariant-loop-k l = Is l.last.words (Passes (Has l.body.words) l._k) × Is l.out.words (Range (Has l.body.words) l.low l._k) × (l.low ≤ l._k) × (l._k ≤ l.high)
