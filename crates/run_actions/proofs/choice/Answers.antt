use mathlib.Core.Path.{sym, ◌∙◌}
use Rattle.run_actions.proofs.choice.Goals as goal

-- src/lib.rt:179:9
pub returns-then-stored : goal.returns-then-stored
returns-then-stored c = simp (sym c.stored.ensures ∙ c.if-stored.true)

-- src/lib.rt:182:9
pub returns-then-stored-2 : goal.returns-then-stored-2
returns-then-stored-2 c = simp (sym c.stored.ensures ∙ c.if-stored.false, sym c.stored-2.ensures ∙ c.if-stored-2.true)

-- src/lib.rt:174:1
pub returns : goal.returns
returns c = simp (sym c.stored.ensures ∙ c.if-stored.false, sym c.stored-2.ensures ∙ c.if-stored-2.false)
