use mathlib.Core.Path.{ap, ◌∙◌}
use lib.IntN.{ℤ}
use Rattle.term_words.specs.declared.Numbers.{Numbers}
use Rattle.term_words.specs.declared.Mode.{Mode}
use Rattle.term_words.specs.declared.Kind.{Kind}
use Rattle.term_words.specs.Words.{terms}
use Rattle.term_integers.proofs.Laws.{read₁}
use Rattle.term_evaluation.specs.declared.Ended.{Ended}
use Rattle.term_evaluation.specs.Meaning.{verdict_of, run, membership}
use Rattle.term_evaluation.proofs.contains_at_length.Goals as goal

pub returns : goal.returns
unfolding membership
returns c =
    c.verdict.ensures ∙ ap (λ (e : Ended). verdict_of e.trial) (read₁ (λ (v : ℤ). run Kind.Set Mode.Values c.args.values.now v c.args.start (terms c.args.words.now c.args.start c.args.end) Numbers.Zero 1) c.args.value c.ranges.value.sfits c.work_out-ended.ensures)
