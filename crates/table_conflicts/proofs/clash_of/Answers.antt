use Prim.Native.Nat.{◌+◌}
use mathlib.Core.Bool.{Bool}
use mathlib.Core.Path.{sym, subst}
use Rattle.table_layout.specs.declared.Below.{Below}
use Rattle.table_first_follow.specs.Rounds.{strings}
use Rattle.table_conflicts.specs.Clashes.{ClashBelow, Repeating}
use Rattle.table_conflicts.proofs.clash_of.Goals as goal

pub returns-in-Nothing : goal.returns-in-Nothing
returns-in-Nothing c = rw c.in-Nothing.is tt

pub returns-in-Branches : goal.returns-in-Branches
returns-in-Branches c =
    let a = c.args in
    subst (λ (x : Below). ClashBelow a.table.now (strings a.follow.now) (strings a.prediction.now) a.i a.size x c.branches.result) (sym c.in-Branches.is) c.branches.ensures

pub returns-in-Members : goal.returns-in-Members
returns-in-Members c = rw c.in-Members.is tt

pub returns-in-Body : goal.returns-in-Body
returns-in-Body c =
    let a = c.args in
    subst (λ (x : Below). ClashBelow a.table.now (strings a.follow.now) (strings a.prediction.now) a.i a.size x c.unfixed.result) (sym c.in-Body.is)
    (subst (λ (b : Bool). Repeating b (strings a.prediction.now (a.i + 1)) (strings a.follow.now a.i) c.unfixed.result) c.fixed.ensures c.unfixed.ensures)

pub returns-in-Cases : goal.returns-in-Cases
returns-in-Cases c = rw c.in-Cases.is tt

pub returns-in-Rule : goal.returns-in-Rule
returns-in-Rule c = rw c.in-Rule.is tt
