use mathlib.Core.Path.{ap}
use Rattle.term_evaluation.specs.declared.Tally.{Tally}
use Rattle.term_evaluation.specs.Counts.{counts}
use Rattle.term_evaluation.proofs.counts.count_at_length.Goals as goal

pub returns : goal.returns
unfolding counts
returns c = ap (λ (x : Tally). x.counted) c.tally-all.ensures
