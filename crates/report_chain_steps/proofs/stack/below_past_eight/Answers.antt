use mathlib.Core.Path.{sym, ◌∙◌}
use Rattle.report_chain_steps.proofs.Stacks.{top_past}
use Rattle.report_chain_steps.proofs.stack.below_past_eight.Goals as goal

pub returns-then-number_at-i : goal.returns-then-number_at-i
returns-then-number_at-i c = λ h ws. top_past ws c.args.items.now c.args.depth c.args.i c.if-depth-gt0.true (sym c.number_at.ensures ∙ c.if-number_at-i.true)
