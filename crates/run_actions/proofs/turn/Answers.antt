use Prim.Native.Nat.{◌+◌, ◌≤◌, ◌<◌}
use native.Mathlib.Omega.{arith}
use borrow.Author.Tests.{le-leb, lt-leb, lt-ltb, le-ltb}
use Rattle.run_actions.proofs.turn.Goals as goal

-- src/lib.rt:209:17
pub returns-then-k-low : goal.returns-then-k-low
returns-then-k-low c = simp (c.in-Ok.is, c.in-From.is, lt-ltb _ _ c.if-k-low.true)

-- src/lib.rt:215:17
pub returns-then-k-low-2 : goal.returns-then-k-low-2
returns-then-k-low-2 c = simp (c.in-Ok.is, c.in-Within.is, lt-ltb _ _ c.if-k-low-2.true)

-- src/lib.rt:218:17
pub returns-then-more-k : goal.returns-then-more-k
returns-then-more-k c =
    let low = c.in-Within.low in
    let more = c.in-Within.more in
    let l : low + more ≤ c.args.k = omega arith in
    simp (c.in-Ok.is, c.in-Within.is, le-ltb _ _ c.if-k-low-2.false, le-leb (low + more) c.args.k l)

-- src/lib.rt:201:1
pub returns-else-k-low : goal.returns-else-k-low
returns-else-k-low c = simp (c.in-Ok.is, c.in-From.is, le-ltb _ _ c.if-k-low.false, ← c.ahead.ensures.0) c.choice.ensures

-- src/lib.rt:201:1
pub returns-else-more-k : goal.returns-else-more-k
returns-else-more-k c =
    let low = c.in-Within.low in
    let more = c.in-Within.more in
    let l : c.args.k < low + more = omega arith in
    simp (c.in-Ok.is, c.in-Within.is, le-ltb _ _ c.if-k-low-2.false, lt-leb (low + more) c.args.k l, ← c.ahead-in-Within.ensures.0) c.choice-in-Within.ensures
