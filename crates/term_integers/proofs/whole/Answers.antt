use mathlib.Core.Path.{sym}
use lib.IntN.{pos}
use Rattle.term_integers.proofs.Laws.{back, bounded_in, bounded_out}
use Rattle.term_integers.proofs.whole.Goals as goal

pub returns-then-n-le-LIMIT : goal.returns-then-n-le-LIMIT
returns-then-n-le-LIMIT c = rw (back c.signed.result c.signed.type_inv, c.signed.ensures) (sym (bounded_in (pos c.args.n) c.if-n-le-LIMIT.true))

pub returns-else-n-le-LIMIT : goal.returns-else-n-le-LIMIT
returns-else-n-le-LIMIT c = sym (bounded_out (pos c.args.n) c.if-n-le-LIMIT.false)
