use Rattle.text_formulas.proofs.Choosing.{bound_some, bound_none}
use mathlib.Core.Path.{sym, ◌∙◌}
use Rattle.text_formulas.proofs.sets.bound.Goals as goal

-- src/sets.rt:28:9
pub returns-then-begins : goal.returns-then-begins
returns-then-begins c = bound_some c.args.some c.args.none c.args.p (sym c.begins.ensures ∙ c.if-begins.true) c.calculation-r.ensures (c.add_sign.ensures c.args.text.now)

-- src/sets.rt:16:1
pub returns : goal.returns
returns c = bound_none c.args.some c.args.none c.args.p (sym c.begins.ensures ∙ c.if-begins.false) (c.add_sign-2.ensures c.args.text.now)
