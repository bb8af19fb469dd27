use mathlib.Core.Path.{◌∙◌}
use Rattle.table_judge.proofs.judge.Goals as goal

pub judge_words-requires : goal.judge_words-requires
judge_words-requires c = let s = c in let a = c.all in (s.requires.0, a.auto.first ∙ s.requires.1, a.auto.follow ∙ s.requires.2, a.auto.prediction ∙ s.requires.3, a.ensures.first_sets, a.ensures.follow_sets, a.ensures.prediction_sets)
