use borrow.Author.Tests.{eq-eqb, ne_eqb}
use Rattle.run_saved.specs.Saved.{saved_bytes}
use Rattle.songrafter.proofs.with_room.Goals as goal

-- src/lib.rt:101:13
pub returns-then-room-eq-SAVED_BYTES : goal.returns-then-room-eq-SAVED_BYTES
returns-then-room-eq-SAVED_BYTES c = simp (eq-eqb c.args.number 0 c.if-number-eq0.true, eq-eqb c.args.room saved_bytes c.if-room-eq-SAVED_BYTES.true)

-- src/lib.rt:103:9
pub returns-then-number-eq0 : goal.returns-then-number-eq0
returns-then-number-eq0 c = simp (eq-eqb c.args.number 0 c.if-number-eq0.true, ne_eqb c.args.room saved_bytes c.if-room-eq-SAVED_BYTES.false)

-- src/lib.rt:96:1
pub returns : goal.returns
returns c = simp (ne_eqb c.args.number 0 c.if-number-eq0.false)
