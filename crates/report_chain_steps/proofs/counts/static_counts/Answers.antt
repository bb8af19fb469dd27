use mathlib.Core.Path.{sym, ap, ◌∙◌}
use Rattle.table_layout.specs.Held.{passes_static}
use Rattle.report_chain_steps.proofs.counts.static_counts.Goals as goal

pub returns-in-Counted : goal.returns-in-Counted
returns-in-Counted c = c.counted.ensures ∙ ap (passes_static c.args.table.now) (sym c.in-Counted.is)
