use mathlib.Core.Path.{sym, ap}
use mathlib.Core.Bool.{Bool, cond}
use borrow.Author.Tests.{lt-ltb, le-ltb}
use lib.ListN.{length}
use Rattle.basis.specs.Limits.{max_frame_bytes}
use Rattle.songrafter.proofs.no_run.Goals as goal

-- src/lib.rt:159:9
pub returns-then-frame-gt-MAX_FRAME_BYTES : goal.returns-then-frame-gt-MAX_FRAME_BYTES
returns-then-frame-gt-MAX_FRAME_BYTES c = (sym (ap (λ (b : Bool). cond b 21 24) (lt-ltb max_frame_bytes (length c.args.frame.now) c.if-frame-gt-MAX_FRAME_BYTES.true)), c.put_count.ensures)

-- src/lib.rt:154:1
pub returns : goal.returns
returns c = (sym (ap (λ (b : Bool). cond b 21 24) (le-ltb max_frame_bytes (length c.args.frame.now) c.if-frame-gt-MAX_FRAME_BYTES.false)), c.put_count.ensures)
