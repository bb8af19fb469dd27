use mathlib.Core.Path.{ap, ◌∙◌}
use mathlib.Core.Bool.{◌&&◌}
use lib.Dec.{eqb}
use Rattle.table_layout.specs.Constructs.{listed}
use Rattle.run_actions.specs.Acts.{turn_act, ahead_at}
use Rattle.run_actions.proofs.Told.{repeats}
use Rattle.run_actions.proofs.of_inner.Goals as goal

pub returns-in-3 : goal.returns-in-3
returns-in-3 c =
    let a = c.args in
    simp c.in-3.is
    (c.turn.ensures
    ∙ (ap (turn_act a.table.now (ahead_at a.frame.now a.p) a.i a.k) c.passes_told.ensures
    ∙ repeats a.table.now a.frame.now a.values.now a.p a.i a.k a.size a.b a.c (eqb a.a 1) (eqb a.a 2) (eqb a.a 3) (eqb a.a 4 && listed a.b a.c)))
