use mathlib.Core.Path.{ap, ◌∙◌}
use lib.IntN.{ℤ}
use Rattle.basis.specs.Bits.{bits_of}
use Rattle.basis.specs.Patterns.{pattern_value}
use Rattle.term_words.specs.Words.{terms}
use Rattle.term_integers.proofs.Laws.{read₁}
use Rattle.term_evaluation.specs.Meaning.{membership}
use Rattle.term_evaluation.proofs.Clamping.{membership_clamped}
use Rattle.term_evaluation.proofs.patterns.contains_pattern.Goals as goal

pub returns : goal.returns
returns c =
    let a = c.args in
    read₁ (λ (v : ℤ). membership a.values.now v a.start (terms a.words.now a.start a.end)) c.value_of-value.result c.value_of-value.type_inv c.contains.ensures
    ∙ ap (λ (v : ℤ). membership a.values.now v a.start (terms a.words.now a.start a.end)) c.value_of-value.ensures
    ∙ membership_clamped a.values.now (pattern_value a.sign (bits_of a.width a.pattern)) a.start (terms a.words.now a.start a.end)
