use mathlib.Core.Path.{sym, subst}
use mathlib.Core.Bool.{false, false≢true}
use Rattle.lookahead.specs.Sets.{Decides}
use Rattle.table_layout.specs.declared.OwnList.{OwnList}
use Rattle.table_first_follow.specs.Rounds.{strings}
use Rattle.table_conflicts.specs.Clashes.{NoValueIn}
use Rattle.table_conflicts.proofs.none_left.Goals as goal

never : Decides false ⊥
never = ((λ e. absurd (false≢true e)), (λ z. absurd z))

pub returns-in-None : goal.returns-in-None
returns-in-None c = rw c.in-None.is never

pub returns-in-Counts : goal.returns-in-Counts
returns-in-Counts c = rw c.in-Counts.is never

pub returns-in-Set : goal.returns-in-Set
returns-in-Set c =
    let a = c.args in
    subst (λ (x : OwnList). Decides c.is_empty.result (NoValueIn (strings a.first.now) a.i x)) (sym c.in-Set.is)
    ((λ e x h. c.is_empty.ensures.0 e x ((c.set_of.ensures.strings x).1 h)), (λ n. c.is_empty.ensures.1 (λ x h. n x ((c.set_of.ensures.strings x).0 h))))
