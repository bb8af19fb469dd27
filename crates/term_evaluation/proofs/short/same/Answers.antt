use mathlib.Core.Path.{ap, ◌∙◌}
use lib.IntN.{ℤ}
use Rattle.term_integers.specs.Wholes.{equals}
use Rattle.term_integers.proofs.Laws.{read₂}
use Rattle.term_evaluation.proofs.short.same.Goals as goal
use Rattle.std.specs.Prelude.{Ok}

pub returns : goal.returns
returns c =
    let a = c.args in
    ap Ok (read₂ equals c.signed.result a.value c.signed.type_inv c.ranges.value.sfits c.equal.ensures ∙ ap (λ (z : ℤ). equals z a.value) c.signed.ensures)
