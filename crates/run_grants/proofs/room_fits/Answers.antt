use mathlib.Core.Path.{sym}
use Rattle.run_grants.proofs.Fitting.{room_left, no_room}
use Rattle.run_grants.proofs.room_fits.Goals as goal

-- src/lib.rt:82:9
pub returns-then-unread-pairs : goal.returns-then-unread-pairs
returns-then-unread-pairs c = room_left c.args.room c.args.captures c.args.unread c.if-unread-pairs.true

-- src/lib.rt:77:1
pub returns : goal.returns
returns c = sym (no_room c.args.room c.args.captures c.args.unread c.if-unread-pairs.false)
