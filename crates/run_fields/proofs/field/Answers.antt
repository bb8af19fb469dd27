use Prim.Native.Nat.{◌+◌, ◌*◌, ◌≤◌, ◌<◌}
use native.Mathlib.Omega.{arith}
use lib.ListN.{length}
use borrow.Author.Tests.{lt-ltb, le-ltb, le-leb, lt-leb}
use Rattle.run_fields.proofs.field.Goals as goal

-- src/lib.rt:107:9
pub returns-then-frame-gt-MAX_FRAME_BYTES : goal.returns-then-frame-gt-MAX_FRAME_BYTES
returns-then-frame-gt-MAX_FRAME_BYTES c = simp (lt-ltb _ _ c.if-frame-gt-MAX_FRAME_BYTES.true)

-- src/lib.rt:110:9
pub returns-then-reading-k : goal.returns-then-reading-k
returns-then-reading-k c =
    let a = c.args in
    let short : length a.reading.now < 2 * a.k + 2 = omega arith in
    simp (le-ltb _ _ c.if-frame-gt-MAX_FRAME_BYTES.false, lt-leb _ _ short)

-- src/lib.rt:103:1
pub returns : goal.returns
returns c =
    let a = c.args in
    let there : 2 * a.k + 2 ≤ length a.reading.now = omega arith in
    simp (le-ltb _ _ c.if-frame-gt-MAX_FRAME_BYTES.false, le-leb _ _ there, ← c.word-i.ensures.0, ← c.word-p.ensures.0) c.at.ensures
