use mathlib.Core.Path.{ap, ◌∙◌}
use Rattle.term_evaluation.specs.declared.Ended.{Ended}
use Rattle.term_evaluation.specs.Meaning.{verdict_of, condition}
use Rattle.term_evaluation.proofs.satisfied_at_length.Goals as goal

pub returns : goal.returns
unfolding condition
returns c = c.verdict.ensures ∙ ap (λ (e : Ended). verdict_of e.trial) c.work_out-ended.ensures
