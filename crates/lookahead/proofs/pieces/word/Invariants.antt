use Rattle.lookahead.proofs.PieceLaws.{Word-to}
use Prim.Native.Nat.{◌≤◌}
use Rattle.lookahead.proofs.pieces.word.Given as goal

abbrev pub invariant-loop-j : goal.invariant-loop-j
invariant-loop-j l = Word-to l.a l.b l.r l.j l.out × (l.j ≤ 9)
