use Prim.Native.Nat.{◌≤◌}
use Rattle.lookahead.specs.Inner.{Filled, JoinedWord}
use Rattle.lookahead.proofs.join_words.Given as goal

abbrev pub invariant-loop-i : goal.invariant-loop-i
invariant-loop-i l = Filled (JoinedWord l.x l.y l.p) l.i l.out × (l.i ≤ 8)
