use mathlib.Core.Path.{ap, ◌∙◌}
use lib.IntN.{ℤ}
use lib.Signed.{le_z}
use Rattle.term_integers.proofs.Laws.{read₂}
use Rattle.term_evaluation.proofs.short.from.Goals as goal
use Rattle.std.specs.Prelude.{Ok}

pub returns : goal.returns
returns c =
    let a = c.args in
    ap Ok (read₂ le_z c.signed.result a.value c.signed.type_inv c.ranges.value.sfits c.at_most.ensures ∙ ap (λ (z : ℤ). le_z z a.value) c.signed.ensures)
