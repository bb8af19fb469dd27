use Rattle.lookahead.proofs.SpanLaws.{Spanned}
use Rattle.lookahead.specs.Inner.{Filled}
use Prim.Native.Nat.{◌≤◌}
use Rattle.lookahead.proofs.spans.between.Given as goal

abbrev pub invariant-loop-i : goal.invariant-loop-i
invariant-loop-i l = Filled (Spanned l.low l.past) l.i l.out × (l.i ≤ 8)
