use Rattle.bench.proofs.Answers.{light}
use Rattle.bench.proofs.admit_text.Goals as goal

pub returns : goal.returns
returns c = light _ _ _ _ c.admit.ensures.answers
