use lib.IntN.{ℤ}
use Rattle.term_integers.proofs.Laws.{read₁}
use Rattle.term_evaluation.specs.Meaning.{membership}
use Rattle.table_layout.specs.Held.{terms_of}
use Rattle.run_actions.proofs.set_holds.Goals as goal

pub returns : goal.returns
returns c =
    let a = c.args in
    read₁ (λ (v : ℤ). membership a.values.now v a.start (terms_of a.table.now a.start a.end)) a.number c.ranges.number.sfits (simp (← c.terms.ensures) c.contains.ensures)
