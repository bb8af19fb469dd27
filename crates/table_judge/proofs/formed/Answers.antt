use mathlib.Core.Path.{sym, ◌∙◌}
use mathlib.Core.Bool.{false≢true}
use Rattle.table_judge.proofs.formed.Goals as goal

pub measured-requires : goal.measured-requires
measured-requires c = sym c.laid.ensures ∙ c.if-laid.true

pub returns-else-laid : goal.returns-else-laid
returns-else-laid c = ((λ t. absurd (false≢true (sym c.if-laid.false ∙ t))), (λ p. absurd (false≢true (sym c.if-laid.false ∙ c.laid.ensures ∙ p.passed.laid_out))))
