use mathlib.Core.Bool.{false≢true}
use mathlib.Core.Path.{sym, ◌∙◌}
use Rattle.report_chain_steps.proofs.Readiness.{of_literal, of_range, of_uint}
use Rattle.report_chain_steps.proofs.fields.is_field.Goals as goal

pub returns-in-Literal : goal.returns-in-Literal
returns-in-Literal c = λ e. of_literal c.args.table.now c.args.i c.requires _ (sym c.construct_at.ensures ∙ c.in-Literal.is)

pub returns-in-Range : goal.returns-in-Range
returns-in-Range c = λ e. of_range c.args.table.now c.args.i c.requires _ _ (sym c.construct_at.ensures ∙ c.in-Range.is)

pub returns-in-Uint : goal.returns-in-Uint
returns-in-Uint c = λ e. of_uint c.args.table.now c.args.i c.requires _ _ _ _ _ (sym c.construct_at.ensures ∙ c.in-Uint.is)

pub returns-in_default : goal.returns-in_default
returns-in_default c = λ e. absurd (false≢true e)
