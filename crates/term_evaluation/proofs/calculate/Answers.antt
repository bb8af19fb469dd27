use mathlib.Core.Path.{ap, ◌∙◌}
use Rattle.term_evaluation.specs.declared.Ended.{Ended}
use Rattle.term_evaluation.specs.Meaning.{number_of, calculation}
use Rattle.term_evaluation.proofs.calculate.Goals as goal

pub returns : goal.returns
unfolding calculation
returns c = c.number.ensures ∙ ap (λ (e : Ended). number_of e.trial) c.work_out-ended.ensures
