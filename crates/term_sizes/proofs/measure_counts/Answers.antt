use mathlib.Core.Path.{ap, ◌∙◌}
use Rattle.term_sizes.specs.Sizes.{of_tally, count_sizes}
use Rattle.term_sizes.proofs.measure_counts.Goals as goal

pub returns : goal.returns
unfolding count_sizes
returns c = c.of_counted.ensures ∙ ap of_tally c.tally-all.ensures
