use mathlib.Core.Path.{ap, ◌∙◌}
use lib.Signed.{le_z}
use Rattle.term_integers.proofs.Laws.{read₂}
use Rattle.term_evaluation.proofs.short.up_to.Goals as goal
use Rattle.std.specs.Prelude.{Ok}

pub returns : goal.returns
returns c =
    let a = c.args in
    ap Ok (read₂ le_z a.value c.signed.result c.ranges.value.sfits c.signed.type_inv c.at_most.ensures ∙ ap (le_z a.value) c.signed.ensures)
