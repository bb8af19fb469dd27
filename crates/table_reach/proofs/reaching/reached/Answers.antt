use mathlib.Core.Path.{refl}
use borrow.Author.Tests.{lt-ltb, le-ltb}
use Rattle.table_reach.proofs.reaching.reached.Goals as goal

pub returns-then-q-lt-MAX_RULES : goal.returns-then-q-lt-MAX_RULES
returns-then-q-lt-MAX_RULES c = rw (lt-ltb _ _ c.if-q-lt-MAX_RULES.true) c.has.ensures

pub returns-else-q-lt-MAX_RULES : goal.returns-else-q-lt-MAX_RULES
returns-else-q-lt-MAX_RULES c = rw (le-ltb _ _ c.if-q-lt-MAX_RULES.false) refl
