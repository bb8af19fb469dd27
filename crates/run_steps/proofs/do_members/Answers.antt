use borrow.Author.Tests.{le-leb, lt-leb}
use Rattle.run_steps.proofs.do_members.Goals as goal

-- src/lib.rt:151:9
pub returns-then-count-n-le-MEMBERS_ROOM : goal.returns-then-count-n-le-MEMBERS_ROOM
returns-then-count-n-le-MEMBERS_ROOM c = λ vs rs. simp (le-leb _ _ c.if-count-n-le-MEMBERS_ROOM.true, c.place.ensures.0, c.place.ensures.1, c.taken.ensures)

-- src/lib.rt:141:1
pub returns : goal.returns
returns c = λ vs rs. simp (lt-leb _ _ c.if-count-n-le-MEMBERS_ROOM.false, c.broken.ensures)
