use mathlib.Core.List.{[]}
use mathlib.Core.Path.{sym, subst}
use mathlib.Core.Bool.{false, false≢true}
use Rattle.lookahead.specs.Sets.{Decides}
use Rattle.table_layout.specs.declared.Below.{Below}
use Rattle.table_first_follow.specs.Rounds.{strings}
use Rattle.table_conflicts.specs.Clashes.{EmptyBelow}
use Rattle.table_conflicts.proofs.may_be_empty.Goals as goal

never : Decides false ⊥
never = ((λ e. absurd (false≢true e)), (λ z. absurd z))

pub returns-in-Nothing : goal.returns-in-Nothing
returns-in-Nothing c = rw c.in-Nothing.is never

pub returns-in-Branches : goal.returns-in-Branches
returns-in-Branches c = rw c.in-Branches.is never

pub returns-in-Members : goal.returns-in-Members
returns-in-Members c = rw c.in-Members.is never

pub returns-in-Body : goal.returns-in-Body
returns-in-Body c =
    let a = c.args in
    subst (λ (x : Below). Decides c.has_empty_string.result (EmptyBelow (strings a.first.now) a.i x)) (sym c.in-Body.is)
    ((λ e. (c.set_of.ensures.strings []).0 (c.has_empty_string.ensures.0 e)), (λ h. c.has_empty_string.ensures.1 ((c.set_of.ensures.strings []).1 h)))

pub returns-in-Cases : goal.returns-in-Cases
returns-in-Cases c = rw c.in-Cases.is never

pub returns-in-Rule : goal.returns-in-Rule
returns-in-Rule c = rw c.in-Rule.is never
