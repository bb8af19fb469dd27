use mathlib.Core.Path.{ap, ◌∙◌}
use Rattle.term_sizes.specs.Sizes.{judged_end, sizes}
use Rattle.term_sizes.proofs.measure.Goals as goal

pub returns : goal.returns
unfolding sizes
returns c = c.judge.ensures ∙ ap (judged_end c.args.kind) c.work_out-ended.ensures
