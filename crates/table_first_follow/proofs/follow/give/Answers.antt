use mathlib.Core.Path.{refl}
use native.Mathlib.Omega.{arith}
use Rattle.table_first_follow.proofs.follow.give.Goals as goal

pub returns-then-b-lt-SETS_HELD : goal.returns-then-b-lt-SETS_HELD
returns-then-b-lt-SETS_HELD c = record { there = λ h. c.add.ensures; past = λ h. absurd (omega (arith, c.if-b-lt-SETS_HELD.true)) }

pub returns : goal.returns
returns c = record { there = λ h. absurd (omega (arith, c.if-b-lt-SETS_HELD.false)); past = λ h. (refl, refl) }
