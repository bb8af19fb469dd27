use mathlib.Core.Path.{sym, ◌∙◌}
use Rattle.table_reach.proofs.Rows.{has_bit, lacks_bit}
use Rattle.table_reach.proofs.reaching.mended.Goals as goal

pub returns-then-has : goal.returns-then-has
returns-then-has c = λ q. has_bit _ _ _ q (sym c.has.ensures ∙ c.if-has.true)

pub returns : goal.returns
returns c = λ q. lacks_bit _ _ _ q (sym c.has.ensures ∙ c.if-has.false)
