use mathlib.Core.Path.{ap, ◌∙◌}
use Rattle.term_integers.proofs.Laws.{read₂}
use Rattle.term_words.specs.Steps.{compares}
use Rattle.term_words.specs.declared.Comparison.{Comparison}
use Rattle.term_evaluation.specs.Short.{comparison_of}
use Rattle.term_evaluation.proofs.short.compared.Goals as goal
use Rattle.std.specs.Prelude.{Ok}

pub returns : goal.returns
returns c =
    let a = c.args in
    ap Ok (read₂ (compares c.comparison.result) a.a c.signed.result c.ranges.a.sfits c.signed.type_inv c.holds.ensures ∙ ap (λ (k : Comparison). compares k a.a c.signed.result) c.comparison.ensures ∙ ap (compares (comparison_of a.tag) a.a) c.signed.ensures)
