use mathlib.Core.Path.{sym, ◌∙◌}
use Rattle.report_chain_steps.proofs.Stacks.{top_is}
use Rattle.report_chain_steps.proofs.stack.below_top.Goals as goal

pub returns-then-number_at-b : goal.returns-then-number_at-b
returns-then-number_at-b c = λ h. (c.if-depth-lt-NO_DEPTH.true, λ ws. top_is ws c.args.items.now c.args.depth c.args.b c.if-depth-gt0.true c.if-b-lt256.true (sym c.number_at.ensures ∙ c.if-number_at-b.true))
