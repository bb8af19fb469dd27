use mathlib.Core.Path.{ap, ◌∙◌}
use lib.IntN.{ℤ, pos}
use Rattle.term_integers.proofs.Laws.{read₂}
use Rattle.basis.specs.Counts.{span}
use Rattle.term_evaluation.specs.Counts.{shown}
use Rattle.term_evaluation.proofs.short.spanned.Goals as goal

pub returns : goal.returns
returns c =
    let a = c.args in
    read₂ (λ (x y : ℤ). shown (span x y)) c.signed.result c.signed-2.result c.signed.type_inv c.signed-2.type_inv c.closed.ensures
    ∙ ap (λ (x : ℤ). shown (span x c.signed-2.result)) c.signed.ensures ∙ ap (λ (y : ℤ). shown (span (pos a.a) y)) c.signed-2.ensures
